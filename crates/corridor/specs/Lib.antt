pub mod Played
pub mod Acts
pub mod Alike
