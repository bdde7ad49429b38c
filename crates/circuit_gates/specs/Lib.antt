pub mod CellGates
