pub mod Bits
pub mod Locks
pub mod Table
