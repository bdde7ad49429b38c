-- How many cells stand in rows, while they grow.
use Rattle.std.specs.Prelude.{◌≡◌, ℕ, zero, suc, ◌<◌, ◌≤◌, List, [], ◌∷◌, length}
use Rattle.std.proofs.Common.{arith, length-append}
use Rattle.rowed.specs.declared.row_cell.RowCell.{RowCell}
use Rattle.rowed.specs.Counts.{cells_in}
use Rattle.level_balance.specs.Laying.{put, next}
use Rattle.level_balance.proofs.Filled.{Filled}

pub row_within : (rows : List (List RowCell)) (r : ℕ) → next rows r ≤ cells_in rows
row_within [] r = omega arith
row_within (row ∷ rows) zero = omega arith
row_within (row ∷ rows) (suc r) = let h = row_within rows r in omega arith

pub rows_within : (rows : List (List RowCell)) → Filled (length rows) rows → length rows ≤ cells_in rows
rows_within [] h = omega arith
rows_within (row ∷ rows) h = let a = h 0 (omega arith) in let b = rows_within rows
    (λ r lt. h (suc r) (omega arith)) in omega arith

pub cells_put : (rows : List (List RowCell)) (r : ℕ) (c : RowCell) → r < length rows
    → cells_in (put rows r c) ≡ suc (cells_in rows)
cells_put [] r c lt = absurd (omega arith)
cells_put (row ∷ rows) zero c lt = let h = length-append row (c ∷ []) in omega arith
cells_put (row ∷ rows) (suc r) c lt = let h = cells_put rows r c (omega arith) in omega arith
