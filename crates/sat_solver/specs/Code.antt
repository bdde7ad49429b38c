-- Words of the crate's own code: literals that follow from others.
pub mod Following
