-- Words of private contracts and of loops.
pub mod Lanes
