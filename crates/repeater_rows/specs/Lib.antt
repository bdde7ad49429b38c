pub mod Destinations
pub mod Rounds
pub mod Repeaters
pub mod Passes
pub mod Local
pub mod Inserted
pub mod Examples
pub mod Code
