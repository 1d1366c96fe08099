pub mod Heard
pub mod AtOnce
pub mod Call
pub mod Told
pub mod Reach
