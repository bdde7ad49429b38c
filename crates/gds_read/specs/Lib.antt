pub mod WideReading
pub mod Code
