mod Grown
mod Growing
mod Below
mod ValueLaws
mod MakerLaws
mod Ordered
mod Right
mod RightAll
mod CoverRight
mod DefineRight
mod SoundWalks
pub mod MappedNets
pub mod FewGates
mod MappingGiven
pub mod Halving
pub mod Beginning
pub mod Running
pub mod Cubing
pub mod Defining
pub mod Walking
pub mod Leaving
pub mod Outputs
