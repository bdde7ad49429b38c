-- Words of the code alone: places of the reader, records of bytes, outlines, numbers of names, and references.
pub mod Sequences
pub mod Places
pub mod Fronts
pub mod Texts
pub mod Steps
pub mod Decoding
pub mod Bodies
pub mod Outlining
pub mod Numbering
pub mod Graphs
pub mod Tops
pub mod Ways
