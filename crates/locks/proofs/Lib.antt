pub mod Bits
pub mod Gains
pub mod Lock
pub mod Table
