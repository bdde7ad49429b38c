pub mod Valuations
mod Evaluated
pub mod FirstFacts
