pub mod Cuts
pub mod Reading
pub mod Pages
pub mod Answering
pub mod Shown
pub mod Tracing
mod InBlocks
mod InLanes
mod NextWords
