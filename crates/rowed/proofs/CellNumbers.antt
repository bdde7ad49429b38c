-- The numbers of cells that stand in rows: they rise row by row, and each number below the count is that of one cell.
use Rattle.std.specs.Prelude.{◌≡◌, ℕ, zero, suc, ◌-◌, ◌<◌, List, [], ◌∷◌, length}
use Rattle.std.proofs.Common.{refl, ap, arith, inl, inr}
use Rattle.std.proofs.lemmas.Bool.{cases_lt}
use Rattle.rowed.specs.declared.row_cell.RowCell.{RowCell}
use Rattle.rowed.specs.RowNets.{row_at}
use Rattle.rowed.specs.Counts.{cells_in, cell_number, IsCellAt}

-- a cell of the rows has a number below the count
pub number_below : (rows : List (List RowCell)) (r place : ℕ) → place < length (row_at rows r)
    → cell_number rows r place < cells_in rows
number_below [] r place within = absurd (omega arith)
number_below (row ∷ rows) zero place within = omega arith
number_below (row ∷ rows) (suc r) place within = let more = number_below rows r place within in omega arith

-- the numbers of a row go on where those of the row before end
pub next_row : (rows : List (List RowCell)) (r : ℕ)
    → cell_number rows (suc r) 0 ≡ cell_number rows r (length (row_at rows r))
next_row [] zero = refl
next_row [] (suc r) = refl
next_row (row ∷ rows) zero = omega arith
next_row (row ∷ rows) (suc r) = let more = next_row rows r in omega arith

-- a cell of a lower row has a lower number
pub lower_row : (rows : List (List RowCell)) (q m r n : ℕ) → q < r → m < length (row_at rows q)
    → cell_number rows q m < cell_number rows r n
lower_row [] q m r n lower within = absurd (omega arith)
lower_row (row ∷ rows) q m zero n lower within = absurd (omega arith)
lower_row (row ∷ rows) zero m (suc r) n lower within = omega arith
lower_row (row ∷ rows) (suc q) m (suc r) n lower within =
    let more = lower_row rows q m r n (omega arith) within in omega arith

-- cells of one number are one cell
pub one_cell : (rows : List (List RowCell)) (q m r n : ℕ) → m < length (row_at rows q) → n < length (row_at rows r)
    → cell_number rows q m ≡ cell_number rows r n → (q ≡ r) × (m ≡ n)
one_cell [] q m r n first second same = absurd (omega arith)
one_cell (row ∷ rows) zero m zero n first second same = (refl, omega arith)
one_cell (row ∷ rows) zero m (suc r) n first second same = absurd (omega arith)
one_cell (row ∷ rows) (suc q) m zero n first second same = absurd (omega arith)
one_cell (row ∷ rows) (suc q) m (suc r) n first second same =
    let more = one_cell rows q m r n first second (omega arith) in (ap suc more.0, more.1)

-- each number below the count is that of a cell
pub some_cell : (rows : List (List RowCell)) (number : ℕ) → number < cells_in rows → IsCellAt rows number
some_cell [] number below = absurd (omega arith)
some_cell (row ∷ rows) number below = elim (cases_lt number (length row)) [
  | inl within ↦ record { row = 0; place = number; within = within; number_is = omega arith }
  | inr past ↦
      let more = some_cell rows (number - length row) (omega arith) in
      let is = more.number_is in
      record { row = suc more.row; place = more.place; within = more.within; number_is = omega arith }
]
