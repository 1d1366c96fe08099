pub mod Text
pub mod Pack
pub mod Word
pub mod Args
pub mod Rows
