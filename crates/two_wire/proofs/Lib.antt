pub mod Laws
pub mod Examples
pub mod Outcome
pub mod Stored
pub mod Gather
pub mod ReadBack
