-- The limit on cells: rows pass it where their cells together do, and the refusal's number is that of the first such
-- row.
use Rattle.std.proofs.Common.{◌≡◌, ℕ, ◌+◌, ◌<◌, ◌≤◌, true, false, nat_le, List, [], ◌∷◌, ◌++◌, Some, None, length, refl}
use Rattle.std.proofs.Common.{sym, ap, ◌∙◌, arith, inl, inr}
use Rattle.std.proofs.lemmas.Bool.{le-leb, lt-leb, cases_lt}
use Rattle.rowed.specs.declared.row_cell.RowCell.{RowCell}
use Rattle.rowed.specs.PlacedNets.{PlacedRow, placed_rows, PlacedView}
use Rattle.rowed.specs.Counts.{cells_in}
use Rattle.repeater_rows.specs.Repeaters.{repeated, repeated_rows}
use Rattle.rowed.specs.Limits.{cell_limit}
use Rattle.repeater_rows.specs.Passes.{AreRepeated, IsTooLarge, cells_past, IsFirstPast}
use Rattle.repeater_rows.specs.declared.pass.RepeatRefusal.TheVariants.{TooManyCells}
use Rattle.rowed.proofs.RowsAboveLaws.{cells_of, placed_again}

-- a row within the limit, and one past it
pub on : (before : ℕ) (row : PlacedRow) (rows : List PlacedRow) → before + length row.cells ≤ cell_limit
    → cells_past before (row ∷ rows) ≡ cells_past (before + length row.cells) rows
on before row rows le = let fits : nat_le (before + length row.cells) cell_limit ≡ true =
    le-leb (before + length row.cells) cell_limit le in rw fits refl

pub off : (before : ℕ) (row : PlacedRow) (rows : List PlacedRow) → cell_limit < before + length row.cells
    → cells_past before (row ∷ rows) ≡ Some (before + length row.cells)
off before row rows lt = let past : nat_le (before + length row.cells) cell_limit ≡ false =
    lt-leb (before + length row.cells) cell_limit lt in rw past refl

fits_from : (before : ℕ) (rows : List PlacedRow) → before + cells_in (cells_of rows) ≤ cell_limit
    → cells_past before rows ≡ None
fits_from before [] le = refl
fits_from before (row ∷ rows) le = on before row rows (omega (arith, le))
    ∙ fits_from (before + length row.cells) rows (omega (arith, le))

pub rows_fit : (rows : List PlacedRow) → cells_in (cells_of rows) ≤ cell_limit → cells_past 0 rows ≡ None
rows_fit rows le = fits_from 0 rows (omega (arith, le))

within_from : (before : ℕ) (rows : List PlacedRow) → before ≤ cell_limit → cells_past before rows ≡ None
    → before + cells_in (cells_of rows) ≤ cell_limit
within_from before [] le e = omega (arith, le)
within_from before (row ∷ rows) le e = elim (cases_lt cell_limit (before + length row.cells)) [
  | inl lt ↦ absurd (let h = sym (off before row rows lt) ∙ e in cc)
  | inr fits ↦ omega (arith, within_from (before + length row.cells) rows fits (sym (on before row rows fits) ∙ e))
]

pub rows_within : (rows : List PlacedRow) → cells_past 0 rows ≡ None → cells_in (cells_of rows) ≤ cell_limit
rows_within rows e = omega (arith, within_from 0 rows (omega arith) e)

past_from : (before : ℕ) (rows : List PlacedRow) (below : List (List RowCell)) (row : List RowCell)
    (above : List (List RowCell)) → cells_of rows ≡ below ++ (row ∷ above)
    → before + cells_in below ≤ cell_limit → cell_limit < before + cells_in below + length row
    → cells_past before rows ≡ Some (before + cells_in below + length row)
past_from before [] [] row above all le lt = absurd (let e = all in cc)
past_from before [] (b ∷ below) row above all le lt = absurd (let e = all in cc)
past_from before (r ∷ rows) [] row above all le lt =
    let same : r.cells ≡ row = (let e = all in cc) in
    let size = ap length same in
    off before r rows (omega (arith, size, lt)) ∙ ap (λ (n : ℕ). Some n) (omega (arith, size))
past_from before (r ∷ rows) (b ∷ below) row above all le lt =
    let same : r.cells ≡ b = (let e = all in cc) in
    let more : cells_of rows ≡ below ++ (row ∷ above) = (let e = all in cc) in
    let size = ap length same in
    on before r rows (omega (arith, size, le))
    ∙ past_from (before + length r.cells) rows below row above more (omega (arith, size, le)) (omega (arith, size, lt))
    ∙ ap (λ (n : ℕ). Some n) (omega (arith, size))

pub first_past : (rows : List PlacedRow) (cells : ℕ) → IsFirstPast (cells_of rows) cells
    → cells_past 0 rows ≡ Some cells
first_past rows cells first =
    past_from 0 rows first.below first.row first.above first.all (omega (arith, first.within))
    (omega (arith, first.count, first.past))
    ∙ ap (λ (n : ℕ). Some n) (omega (arith, first.count))

-- so many cells stand before these rows, and up to the end of the first of them that passes the limit
record IsNextPast (before : ℕ) (rows : List (List RowCell)) (cells : ℕ) : Type 0 where
  below : List (List RowCell)
  row : List RowCell
  above : List (List RowCell)
  all : rows ≡ below ++ (row ∷ above)
  within : before + cells_in below ≤ cell_limit
  count : cells ≡ before + cells_in below + length row
  past : cell_limit < cells

next_past : (before : ℕ) (rows : List PlacedRow) (cells : ℕ) → before ≤ cell_limit → cells_past before rows ≡ Some cells
    → IsNextPast before (cells_of rows) cells
next_past before [] cells le e = absurd (let h = e in cc)
next_past before (row ∷ rows) cells le e = elim (cases_lt cell_limit (before + length row.cells)) [
  | inl lt ↦ (
      let same : before + length row.cells ≡ cells = (let h = sym (off before row rows lt) ∙ e in cc) in
      record {
        below = [];
        row = row.cells;
        above = cells_of rows;
        all = refl;
        within = omega (arith, le);
        count = omega (arith, same);
        past = omega (arith, same, lt);
      })
  | inr fits ↦ (
      let next = next_past (before + length row.cells) rows cells fits (sym (on before row rows fits) ∙ e) in
      record {
        below = row.cells ∷ next.below;
        row = next.row;
        above = next.above;
        all = ap (λ (l : List (List RowCell)). row.cells ∷ l) next.all;
        within = omega (arith, next.within);
        count = omega (arith, next.count);
        past = next.past;
      })
]

pub past_first : (rows : List PlacedRow) (cells : ℕ) → cells_past 0 rows ≡ Some cells
    → IsFirstPast (cells_of rows) cells
past_first rows cells e =
    let next = next_past 0 rows cells (omega arith) e in
    record {
      below = next.below;
      row = next.row;
      above = next.above;
      all = next.all;
      within = omega (arith, next.within);
      count = omega (arith, next.count);
      past = next.past;
    }

-- the plan's cells
pub given_few : (p out : PlacedView) (reach height channel : ℕ) → AreRepeated p reach height channel out
    → cells_in out.net.rows ≤ cell_limit
given_few p out reach height channel given =
    omega (
      arith,
      rows_within (placed_rows out) given.few_cells,
      ap (λ (q : PlacedView). cells_in q.net.rows)
          (placed_again out given.out_keeps),
    )

pub refused_past : (p : PlacedView) (reach height channel cells : ℕ)
    → IsTooLarge p reach height channel (TooManyCells cells) → IsFirstPast (repeated p reach).net.rows cells
unfolding repeated
refused_past p reach height channel cells past = past_first (repeated_rows reach (placed_rows p)) cells past
