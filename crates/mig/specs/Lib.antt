pub mod Graphs
pub mod Building
pub mod Carried
pub mod Passes
pub mod Code
