pub mod Walking
pub mod Values
pub mod Kept
