use Rattle.std.proofs.Common.{◌≡◌, ℕ, suc, ◌+◌, length, subst, arith}
use Rattle.rowed.specs.RowNets.{row_at}
use Rattle.rowed.specs.Counts.{cell_number}
use Rattle.rowed.proofs.CellNumbers.{number_below, next_row, lower_row, one_cell, some_cell}
use Rattle.rowed.proofs.laws.cells_by_number.Goals as goal

next : (r : ℕ) → suc r ≡ r + 1
next r = omega arith

pub returns : goal.returns
returns c = record {
  below = number_below;
  next = λ rows r.
      subst (λ (k : ℕ). cell_number rows k 0 ≡ cell_number rows r (length (row_at rows r))) (next r) (next_row rows r);
  lower = λ rows q m r n lower within. lower_row rows q m r n lower within;
  one = λ rows q m r n first second same. one_cell rows q m r n first second same;
  some = some_cell;
}
