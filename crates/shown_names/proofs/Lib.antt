pub mod Showing
pub mod Beginnings
