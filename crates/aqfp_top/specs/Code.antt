-- The words of private contracts.
pub mod Pages
pub mod Printing
pub mod Storing
pub mod Pieces
pub mod Loading
pub mod Staging
pub mod Designing
pub mod Building
pub mod Running
pub mod Checking
pub mod Comparing
pub mod Writing
pub mod Sampling
pub mod Reporting
