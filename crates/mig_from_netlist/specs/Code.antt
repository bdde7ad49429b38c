-- Words of the crate's own code: tables and planes of covers, parts of tables, lists of literals that are joined, and
-- signals that have their literals.
pub mod Covers
pub mod Parts
pub mod Known
pub mod Joins
pub mod Mapped
