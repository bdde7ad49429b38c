pub mod Checks
pub mod Code
