-- Words of the crate's own code: the values of cells one after the other.
pub mod Evaluation
