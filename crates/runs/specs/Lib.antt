pub mod Run
pub mod Seen
