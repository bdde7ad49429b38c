pub mod SameCircuit
