pub mod Subfunctions
pub mod Verdicts
pub mod Code
