pub mod Read
pub mod Mirrored
