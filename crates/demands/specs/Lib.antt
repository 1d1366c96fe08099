pub mod Demand
pub mod Table
pub mod Records
pub mod Wrong
pub mod Logged
