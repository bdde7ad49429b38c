pub mod Clauses
pub mod Code
