pub mod Kinds
pub mod Uses
pub mod Tables
pub mod Levels
pub mod Faults
pub mod Told
pub mod Code
