pub mod CellPlans
pub mod Refusals
pub mod DrawnChips
pub mod Code
pub mod Packs
