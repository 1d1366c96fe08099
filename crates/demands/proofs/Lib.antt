pub mod Demand
pub mod Computes
pub mod Examples
pub mod Records
pub mod Caught
pub mod Logged
