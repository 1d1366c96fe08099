pub mod State
pub mod Record
pub mod Outcome
