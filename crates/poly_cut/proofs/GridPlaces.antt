-- The point of a number in a row and in a grid.
use Rattle.std.proofs.Common.{◌≡◌, ℕ, zero, suc, ◌+◌, ◌*◌, ◌/◌, ◌%◌, ◌^◌, ◌<◌, ℤ, pos, ◌+ℤ◌, ◌*ℤ◌, ◌++◌, length}
use Rattle.std.proofs.Common.{sym, ap, ◌∙◌, arith}
use Rattle.std.specs.Prelude.{Some, slice_get}
use Rattle.std.proofs.lemmas.Int.{ints}
use Rattle.std.specs.Int.{w64, cast_signed}
use Rattle.std.proofs.lemmas.Nat.{div-add-mod'}
use Rattle.std.proofs.Math.Nat.{mod-lt, div-lt_iff_lt-mul}
use Rattle.poly_cut.specs.declared.layout.Point.{Point}
use Rattle.poly_cut.specs.declared.layout.Grid.{Grid}
use Rattle.poly_cut.specs.Turns.{point, added, row_points, grid_rows, grid_points}
use Rattle.poly_cut.specs.Conditions.{far, IsGrid}
use Rattle.poly_cut.specs.Bounds.{IsAtMost, IsNear}
use Rattle.poly_cut.proofs.Counting.{row_count}
use Rattle.poly_cut.proofs.Sums.{kept}
use Rattle.poly_cut.proofs.Reaching.{all_rows}
use Rattle.poly_cut.proofs.Numbering.{early, later}

-- ---- steps

product : (n : ℕ) (s : ℤ) → pos (suc n) *ℤ s ≡ s +ℤ pos n *ℤ s
product n s = grind (arith, ints)

no_product : (s : ℤ) → pos 0 *ℤ s ≡ pos 0
no_product s = grind (arith, ints)

no_step : (x s : ℤ) → x +ℤ pos 0 *ℤ s ≡ x
no_step x s = let e = no_product s in omega (arith, ints, e)

one_more : (n : ℕ) (x s : ℤ) → x +ℤ s +ℤ pos n *ℤ s ≡ x +ℤ pos (suc n) *ℤ s
one_more n x s = let e = product n s in omega (arith, ints, e)

far_none : (step p : Point) → far 0 step p ≡ p
far_none step p = λ i. point (no_step p.x step.x i) (no_step p.y step.y i)

far_more : (n : ℕ) (step p : Point) → far n step (added p step) ≡ far (suc n) step p
far_more n step p = λ i. point (one_more n p.x step.x i) (one_more n p.y step.y i)

-- so many steps go so far
pub product_within : (n : ℕ) (s : ℤ) → IsAtMost (2 ^ 40) s → IsAtMost (n * 2 ^ 40) (pos n *ℤ s)
product_within zero s h = let e = no_product s in (omega (arith, ints, e), omega (arith, ints, e))
product_within (suc n) s h =
    let e = product n s in
    let rest = product_within n s h in
    (omega (arith, ints, e, h.0, rest.0), omega (arith, ints, e, h.1, rest.1))

pub along_near : (n : ℕ) (x s : ℤ) → n < 2 ^ 15 → IsAtMost (2 ^ 31) x → IsAtMost (2 ^ 40) s
    → IsAtMost (2 ^ 56) (x +ℤ pos n *ℤ s)
along_near n x s few near step =
    let p = product_within n s step in
    (omega (arith, ints, few, near.0, p.0), omega (arith, ints, few, near.1, p.1))

-- a number that is small is passed on as it is
kept_is : (z : ℤ) → IsAtMost (2 ^ 62) z → kept z ≡ z
kept_is z h = omega (arith, ints, h.0, h.1)

pub along_is : (from step : ℤ) (n : ℕ) → n < 2 ^ 15 → IsAtMost (2 ^ 56) from → IsAtMost (2 ^ 40) step
    → kept (kept from +ℤ kept (cast_signed w64 n *ℤ kept step)) ≡ from +ℤ pos n *ℤ step
along_is from step n few near small =
    let w = product_within n step small in
    let count : cast_signed w64 n ≡ pos n = omega (arith, ints, few) in
    let one = kept_is step (omega (arith, ints, small.0), omega (arith, ints, small.1)) in
    let start = kept_is from (omega (arith, ints, near.0), omega (arith, ints, near.1)) in
    let all : kept (cast_signed w64 n *ℤ kept step) ≡ pos n *ℤ step =
    (λ i. kept (count i *ℤ one i))
    ∙ kept_is (pos n *ℤ step) (omega (arith, ints, few, w.0), omega (arith, ints, few, w.1)) in
    (λ i. kept (start i +ℤ all i))
    ∙ kept_is (from +ℤ pos n *ℤ step)
    (omega (arith, ints, few, near.0, w.0), omega (arith, ints, few, near.1, w.1))

-- ---- points

row_point : (n i : ℕ) (step p : Point) → i < n → slice_get (row_points n step p) i ≡ Some (far i step p)
row_point zero i step p lt = absurd (omega arith)
row_point (suc n) zero step p lt = ap Some (sym (far_none step p))
row_point (suc n) (suc i) step p lt =
    row_point n i step (added p step) (omega arith) ∙ ap Some (far_more i step p)

rows_point : (n j i : ℕ) (g : Grid) (p : Point) → j < n → i < g.columns
    → slice_get (grid_rows n g p) (j * g.columns + i) ≡ Some (far i g.column_step (far j g.row_step p))
rows_point zero j i g p lt within = absurd (omega arith)
rows_point (suc n) zero i g p lt within =
    let row = row_points g.columns g.column_step p in
    let e : 0 * g.columns + i ≡ i = omega arith in
    ap (slice_get (row ++ grid_rows n g (added p g.row_step))) e
    ∙ early row (grid_rows n g (added p g.row_step)) i (omega (arith, row_count g.columns g.column_step p))
    ∙ row_point g.columns i g.column_step p within
    ∙ ap (λ (q : Point). Some (far i g.column_step q)) (sym (far_none g.row_step p))
rows_point (suc n) (suc j) i g p lt within =
    let row = row_points g.columns g.column_step p in
    let e : suc j * g.columns + i ≡ length row + (j * g.columns + i) =
    omega (arith, row_count g.columns g.column_step p) in
    ap (slice_get (row ++ grid_rows n g (added p g.row_step))) e
    ∙ later row (grid_rows n g (added p g.row_step)) (j * g.columns + i)
    ∙ rows_point n j i g (added p g.row_step) (omega arith) within
    ∙ ap (λ (q : Point). Some (far i g.column_step q)) (far_more j g.row_step p)

-- the row of a number is one of the rows
pub row_there : (number rows columns : ℕ) → 0 < columns → number < rows * columns → number / columns < rows
row_there number rows columns some lt = (div-lt_iff_lt-mul some).1 lt

pub far_near : (at : Point) (g : Grid) (number : ℕ) → IsGrid at g → number < g.rows * g.columns
    → IsNear (2 ^ 56) (far (number / g.columns) g.row_step at)
far_near at g number grid lt =
    let row = row_there number g.rows g.columns grid.columns.0 lt in
    let few : number / g.columns < 2 ^ 15 = omega (arith, row, grid.rows.1) in
    let a = all_rows at g grid in (
      along_near (number / g.columns) at.x g.row_step.x few a.start.0 a.row_step.0,
      along_near (number / g.columns) at.y g.row_step.y few a.start.1 a.row_step.1,
    )

pub grid_place : (at : Point) (g : Grid) (number : ℕ) → 0 < g.columns → number < g.rows * g.columns
    → slice_get (grid_points at g) number
    ≡ Some (far (number % g.columns) g.column_step (far (number / g.columns) g.row_step at))
grid_place at g number some lt =
    ap (slice_get (grid_points at g)) (sym (div-add-mod' number g.columns))
    ∙ rows_point g.rows (number / g.columns) (number % g.columns) g at (row_there number g.rows g.columns some lt)
    (mod-lt number some)
