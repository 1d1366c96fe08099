pub mod Layout
pub mod Settings
pub mod Uid
pub mod Shown
pub mod Write
pub mod Tail
pub mod Mirror
