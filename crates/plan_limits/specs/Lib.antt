pub mod Delayed
pub mod Drawable
pub mod Code
