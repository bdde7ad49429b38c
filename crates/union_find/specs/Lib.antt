pub mod Forests
pub mod Code
