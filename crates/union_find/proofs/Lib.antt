pub mod Bounds
pub mod Hanging
pub mod Written
pub mod Joined
pub mod Pushed
pub mod Fresh
