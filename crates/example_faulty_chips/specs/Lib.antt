pub mod Changes
pub mod GeometryChips
pub mod CircuitChips
pub mod LineChips
