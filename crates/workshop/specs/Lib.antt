pub mod Worked
pub mod Tells
pub mod Alike
