-- Words of the crate's own code: literals of gates, nodes that are merged, and least words.
pub mod GateLiterals
pub mod Differences
pub mod Merging
pub mod Least
