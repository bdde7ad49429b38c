pub mod Keys
pub mod Places
pub mod Arranged
pub mod Passes
pub mod Orders
pub mod Spans
pub mod Examples
pub mod Code
