-- Words of the crate's own code: what nodes compute from others, recipes that are run, and nodes that have their
-- literals.
pub mod Cones
