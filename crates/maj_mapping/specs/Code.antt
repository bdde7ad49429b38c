-- Words of the crate's own code: what a maker of gates keeps, one literal, and what the walk over signals has done.
pub mod MakerView
pub mod Makers
pub mod Literals
pub mod Walks
