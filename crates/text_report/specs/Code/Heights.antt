-- Which row a height belongs to, by the rising lower edges of the rows.
use Rattle.std.specs.Prelude.{◌≡◌, ℕ, suc, true, List, slice_get, Some, ℤ, int_le, int_lt}

-- the height is at or above the lower edge of this row, and below that of the next, if there is one
pub record BelongsTo (edges : List ℤ) (row : ℕ) (y : ℤ) : Type 0 where
  pub edge : ℤ
  pub edge_is : slice_get edges row ≡ Some edge
  pub reached : int_le edge y ≡ true
  pub below_next : (next : ℤ) → slice_get edges (suc row) ≡ Some next → int_lt y next ≡ true
