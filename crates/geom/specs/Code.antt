-- Words of the index alone: its grids and spots, and where it looks.
pub mod Grids
pub mod Filed
pub mod Held
pub mod Spots
pub mod Windows
pub mod Bounds
pub mod Zones
