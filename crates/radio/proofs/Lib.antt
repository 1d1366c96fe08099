pub mod Hearing
pub mod AtOnce
pub mod Laws
pub mod Once
pub mod Reach
