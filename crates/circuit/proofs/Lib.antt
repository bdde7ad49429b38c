pub mod Solutions
pub mod CellAnswers
pub mod Valued
