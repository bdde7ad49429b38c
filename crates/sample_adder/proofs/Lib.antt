pub mod Pieces
pub mod AdderLines
pub mod EightLaws
pub mod AdderBytes
