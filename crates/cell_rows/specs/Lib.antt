pub mod Members
pub mod CellRows
pub mod Laws
pub mod Code
