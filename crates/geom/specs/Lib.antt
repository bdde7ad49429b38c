pub mod Rectangle
pub mod FlatForm
pub mod Writable
pub mod FirstChip
pub mod Near
pub mod Code
