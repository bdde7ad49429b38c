pub mod FrameNumbers
pub mod RowByRow
pub mod CircuitAnswers
pub mod CircuitDrawn
pub mod DrawnKeeps
pub mod RealisesAs
pub mod ShownByTicks
pub mod Counts
pub mod Bytes
pub mod Wires
pub mod Realised
mod SkewLaws
mod SkewBound
