pub mod Operations
pub mod Values
pub mod Covers
pub mod Plan
pub mod Counts
pub mod Passes
pub mod Code
