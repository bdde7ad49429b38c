pub mod SortingLaws
pub mod NumbersLaws
pub mod InversionLaws
pub mod Inverted
mod KeyedNumbers
mod StandardWords
