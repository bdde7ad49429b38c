-- Rows and grids, step by step.
use Rattle.std.proofs.Common.{◌≡◌, ℕ, suc, ◌-◌, ◌<◌, List, [], ◌∷◌, ◌++◌, sym, ap, subst, ◌∙◌, arith, append_assoc}
use Rattle.poly_cut.specs.declared.layout.Point.{Point}
use Rattle.poly_cut.specs.declared.layout.Grid.{Grid}
use Rattle.poly_cut.specs.Turns.{added, row_points, grid_rows}
use Rattle.poly_cut.specs.Code.Strides.{IsRow}
use Rattle.poly_cut.proofs.Reaching.{AreRows, next_row, further_rows}

pub one_left : (left : ℕ) → 0 < left → left ≡ suc (left - 1)
one_left left lt = omega arith

pub points_more : (left : ℕ) (step at next : Point) (old new total : List Point) → 0 < left
    → old ++ row_points left step at ≡ total → new ≡ old ++ at ∷ [] → next ≡ added at step
    → new ++ row_points (left - 1) step next ≡ total
points_more left step at next old new total lt inv push add =
    (λ i. push i ++ row_points (left - 1) step (add i)) ∙ append_assoc old (at ∷ [])
    (row_points (left - 1) step (added at step))
    ∙ ap (λ (n : ℕ). old ++ row_points n step at) (sym (one_left left lt)) ∙ inv

pub row_more : (left : ℕ) (step at next : Point) → 0 < left → IsRow left step at → next ≡ added at step
    → IsRow (left - 1) step next
row_more left step at next lt row add = next_row (left - 1) step at next
    (subst (λ (n : ℕ). IsRow n step at) (one_left left lt) row) add

pub grid_more : (left : ℕ) (g : Grid) (row next : Point) (old new total : List Point) → 0 < left
    → old ++ grid_rows left g row ≡ total → new ≡ old ++ row_points g.columns g.column_step row
    → next ≡ added row g.row_step → new ++ grid_rows (left - 1) g next ≡ total
grid_more left g row next old new total lt inv push add =
    (λ i. push i ++ grid_rows (left - 1) g (add i)) ∙ append_assoc old (row_points g.columns g.column_step row)
    (grid_rows (left - 1) g (added row g.row_step))
    ∙ ap (λ (n : ℕ). old ++ grid_rows n g row) (sym (one_left left lt)) ∙ inv

pub rows_more : (left : ℕ) (g : Grid) (at row next : Point) → 0 < left → AreRows left g at row
    → next ≡ added row g.row_step → AreRows (left - 1) g at next
rows_more left g at row next lt a add = further_rows (left - 1) g at row next
    (subst (λ (n : ℕ). AreRows n g at row) (one_left left lt) a) add
