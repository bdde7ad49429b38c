pub mod Kinds
pub mod Outline
pub mod Wires
pub mod Skews
pub mod ReportText
pub mod FirstReport
pub mod ShapeLines
pub mod Code
