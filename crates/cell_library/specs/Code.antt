-- Words of the crate's own code: a draft by its numbers and pins, and what the stages of the reader answer.
pub mod Drafts
pub mod Stages
