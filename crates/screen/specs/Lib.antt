pub mod Blocks
pub mod Reading
pub mod Screen
pub mod Promises
pub mod Examples
