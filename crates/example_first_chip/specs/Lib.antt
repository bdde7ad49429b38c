pub mod Texts
pub mod Wire
