pub mod EntryLaws
pub mod TruthLaws
pub mod TableLaws
