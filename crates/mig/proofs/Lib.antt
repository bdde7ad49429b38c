pub mod Valued
pub mod Folded
pub mod Built
pub mod Exchanged
pub mod Marked
pub mod Shown
pub mod RebuiltGraphs
