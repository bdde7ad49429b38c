-- Words of the crate's own code: the elements that it makes one by one, and what it asks of sizes and columns.
pub mod Boxes
pub mod Labelling
pub mod WireFits
pub mod Sizes
