pub mod Making
pub mod Differing
pub mod Merging
pub mod Refuting
pub mod Compared
pub mod LeastWords
