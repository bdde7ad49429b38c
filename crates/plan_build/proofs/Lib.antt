pub mod SameThen
pub mod CellSizes
pub mod KeptKinds
pub mod ChipLaws
pub mod Exact
pub mod Decided
pub mod Given
