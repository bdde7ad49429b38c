pub mod TestChips
