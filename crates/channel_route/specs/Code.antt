-- Words of the crate's own code: wires by their lower ends, the levels of minima, and what the assignment answers.
pub mod Levels
pub mod Numbered
pub mod Assigned
