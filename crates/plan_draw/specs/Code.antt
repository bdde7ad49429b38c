-- Words of the crate's own code.
pub mod Steps
pub mod Found
