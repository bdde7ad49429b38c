-- Words of the crate's own code.
pub mod Covers
pub mod Tables
pub mod Progress
pub mod Tabled
