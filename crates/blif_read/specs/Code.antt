-- Words of private contracts and of loops.
pub mod Reading
pub mod Size
pub mod Seen
pub mod Ends
pub mod Sections
pub mod Progress
pub mod Found
pub mod Marking
