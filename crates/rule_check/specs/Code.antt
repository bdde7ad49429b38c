-- Words of private contracts and of loops.
pub mod Seen
pub mod Close
pub mod Above
pub mod Cover
pub mod Bands
pub mod FiledRows
pub mod Named
pub mod Sheets
