-- Words of the code alone: drafts.
pub mod Drafts
