-- Words of the crate's own code: what it has read, counted and opened of a channel, and how far a round is.
pub mod Reading
pub mod Looking
pub mod Opening
pub mod Counts
pub mod Works
