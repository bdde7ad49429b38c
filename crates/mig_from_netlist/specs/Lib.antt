pub mod Passes
pub mod Code
