pub mod LibrarySaid
pub mod WireSaid
mod Planned
mod Realised
mod FirstSkew
