-- Words of the crate's own code.
pub mod Limits
