-- Words of the crate's own code: the plan by arrays.
pub mod Arrays
