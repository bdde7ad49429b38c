pub mod FewCross
mod PinsApart
pub mod PlacedChannels
mod Density
mod TracksApart
mod Fewest
mod Minima
mod Raising
mod Descent
mod Ordered
mod Assigning
mod Routed
mod Crossed
