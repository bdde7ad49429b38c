-- Words of the crate's own code: evaluation row by row.
pub mod RowByRow
