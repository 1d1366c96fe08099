pub mod Laws
pub mod Stored
pub mod Kept
pub mod Mirroring
