pub mod Reading
pub mod Arguing
pub mod Tables
pub mod Packing
