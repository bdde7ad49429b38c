-- Words of the crate's own code: majorities whose literals change places, marked nodes, and graphs made anew.
pub mod Folding
pub mod Needed
pub mod Rebuilding
