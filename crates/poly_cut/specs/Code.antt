-- Words of the code alone: the segments of a path, the steps of a grid, the sweep over a ring, structures that hold
-- something, items that are ready to be added, what is flattened, counts in a list, and what is kept of a ring.
pub mod Strokes
pub mod Strides
pub mod Sweeping
pub mod Levels
pub mod Readied
pub mod Boxes
pub mod Holding
pub mod Counted
pub mod Numbered
pub mod Kept
pub mod Flattening
