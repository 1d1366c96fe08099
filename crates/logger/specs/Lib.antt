pub mod Writer
pub mod Promises
pub mod Examples
