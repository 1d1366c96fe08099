pub mod CrcA
pub mod Unrolled
