pub mod Given
pub mod FewElements
pub mod Candidates
mod Delays
