pub mod Crossing
pub mod ShortWires
pub mod PinColumns
pub mod Tracks
pub mod Routes
pub mod Examples
pub mod Code
