pub mod WordsText
pub mod Counts
pub mod WordLines
pub mod FluxLines
pub mod Printing
pub mod Running
pub mod RowStarts
pub mod Code
