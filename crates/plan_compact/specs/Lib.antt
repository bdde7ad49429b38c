pub mod Junctions
pub mod Compact
pub mod Code
pub mod Variants
pub mod Chips
