pub mod Circuits
pub mod Answers
pub mod FirstCircuit
pub mod Code
