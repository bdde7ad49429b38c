pub mod FewJunctions
pub mod Candidates
pub mod Chained
pub mod Chosen
mod Delayed
