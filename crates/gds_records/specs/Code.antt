-- Words of the code alone: what a buffer gains.
pub mod Buffer
