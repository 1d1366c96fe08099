pub mod Induction
pub mod Change
pub mod Keeps
