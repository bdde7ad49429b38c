-- Words of the crate's own code: what the walks over gates and outputs have done, and the plan by arrays.
pub mod Chained
pub mod Arrays
pub mod Steps
pub mod Turns
pub mod Outlines
pub mod Served
pub mod Rooms
pub mod Pages
