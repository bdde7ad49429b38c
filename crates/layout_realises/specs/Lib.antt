pub mod DrawnCircuit
pub mod Realises
pub mod RealisesNet
pub mod Rates
