-- Words of the diagram alone: its nodes and edges, what makes them, and the orders of its variables.
pub mod Diagrams
pub mod Grown
pub mod Named
pub mod Majorities
pub mod Turns
pub mod GateFunctions
pub mod Least
pub mod Orders
pub mod Combined
pub mod Outputs
