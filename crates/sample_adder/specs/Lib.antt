pub mod Adder
pub mod EightWords
pub mod SampleText
