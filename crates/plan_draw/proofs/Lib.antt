mod GivenKinds
mod Chips
mod FewElements
mod Sizes
mod Steps
pub mod OneNet
pub mod OneChip
mod DrawnRows
pub mod Packed
mod Seats
mod Worked
