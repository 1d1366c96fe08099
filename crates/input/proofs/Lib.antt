pub mod Cut
pub mod Long
pub mod Shell
