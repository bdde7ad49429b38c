-- Laws of placed nets row by row: the facts of a placed net are those of its rows, in turn.
use Rattle.std.specs.Prelude.{◌≡◌, ℕ, zero, suc, pred, ◌-◌, ◌<◌, ◌^◌, ◌==◌, Bool, false, List, [], ◌∷◌, length, map}
use Rattle.std.specs.Prelude.{Some, is_some}
use Rattle.std.proofs.Common.{refl, sym, ap, ◌∙◌, subst, arith, inl, inr}
use Rattle.std.specs.List.{AllByRecursion}
use Rattle.std.proofs.lemmas.Bool.{cases_eq, eq-eqb, ne_eqb, eqb-true}
use Rattle.std.proofs.lemmas.List.{length-map}
use Rattle.std.proofs.lemmas.Option.{none-some}
use Rattle.rowed.specs.declared.source.Source.{Source}
use Rattle.rowed.specs.declared.row_cell.RowCell.{RowCell}
use Rattle.rowed.specs.RowNets.{RowView, row_at, cell_at, output_at, fed_at, last_of, EachFeedsOne, ExactlyOne}
use Rattle.rowed.specs.RowNets.{MayStand, IsRowNet}
use Rattle.rowed.specs.Slots.{AreSeated, EachSeated}
use Rattle.rowed.specs.PlacedNets.{PlacedRow, PlacedView, IsPlaced, paired, placed_rows, placed_of, lagged}
use Rattle.rowed.proofs.RowsAbove.{FirstCell, FirstRow, CellAbove, RowAbove, no_more, PlacedAbove}

-- the cells of rows, and their slots
abbrev pub cells_of : List PlacedRow → List (List RowCell)
cells_of rows = map (λ (row : PlacedRow). row.cells) rows

abbrev pub slots_in : List PlacedRow → List (List ℕ)
slots_in rows = map (λ (row : PlacedRow). row.slots) rows

-- rows paired with slots and taken apart
pub paired_apart : (rows : List PlacedRow) → paired (cells_of rows) (slots_in rows) ≡ rows
paired_apart [] = refl
paired_apart (row ∷ rows) = ap (λ (more : List PlacedRow). row ∷ more) (paired_apart rows)

pub placed_rows_of : (inputs outputs : ℕ) (rows : List PlacedRow) → placed_rows (placed_of inputs outputs rows) ≡ rows
placed_rows_of inputs outputs rows = paired_apart rows

paired_cells : (rows : List (List RowCell)) (slots : List (List ℕ)) → EachSeated rows slots
    → cells_of (paired rows slots) ≡ rows
paired_cells [] [] seated = refl
paired_cells [] (s ∷ slots) seated = absurd seated
paired_cells (row ∷ rows) [] seated = absurd seated
paired_cells (row ∷ rows) (s ∷ slots) seated = ap (λ (more : List (List RowCell)). row ∷ more)
    (paired_cells rows slots seated.1)

paired_slots : (rows : List (List RowCell)) (slots : List (List ℕ)) → EachSeated rows slots
    → slots_in (paired rows slots) ≡ slots
paired_slots [] [] seated = refl
paired_slots [] (s ∷ slots) seated = absurd seated
paired_slots (row ∷ rows) [] seated = absurd seated
paired_slots (row ∷ rows) (s ∷ slots) seated = ap (λ (more : List (List ℕ)). s ∷ more)
    (paired_slots rows slots seated.1)

-- a placed net is the one of its rows, but for its delay
pub placed_again : (p : PlacedView) → IsPlaced p
    → lagged p 0 ≡ placed_of p.net.inputs p.net.outputs (placed_rows p)
placed_again p known =
    let a : cells_of (placed_rows p) ≡ p.net.rows = paired_cells p.net.rows p.slots known.seated in
    let b : slots_in (placed_rows p) ≡ p.slots = paired_slots p.net.rows p.slots known.seated in
    rw (a, b) refl

-- so they are placed
pub again_placed : (p : PlacedView) → IsPlaced p → IsPlaced (placed_of p.net.inputs p.net.outputs (placed_rows p))
again_placed p known =
    subst IsPlaced (placed_again p known) (record { net_keeps = known.net_keeps; seated = known.seated })

-- the rows of placed rows, by number
last_one : {X : Type 0} (x : X) (xs : List X) → (1 == length (x ∷ xs)) ≡ no_more xs
last_one x [] = refl
last_one x (y ∷ ys) = ne_eqb 1 (length (x ∷ (y ∷ ys))) (λ e. absurd (omega (arith, e)))

one_less : (m n : ℕ) → (suc m == suc n) ≡ (m == n)
one_less m n = elim (cases_eq m n) [
  | inl e ↦ eq-eqb (suc m) (suc n) (ap suc e) ∙ sym (eq-eqb m n e)
  | inr ne ↦ ne_eqb (suc m) (suc n) (λ e. ne (omega (arith, e))) ∙ sym (ne_eqb m n ne)
]

placed_above : (outputs : ℕ) (lower : PlacedRow) (rows : List PlacedRow) → EachSeated (cells_of rows) (slots_in rows)
    → ((r : ℕ) → r < length rows → RowAbove outputs (suc r == length rows) (row_at (lower.cells ∷ cells_of rows) r)
    (row_at (cells_of rows) r))
    → PlacedAbove outputs lower rows
placed_above outputs lower [] seated each = tt
placed_above outputs lower (upper ∷ rows) seated each = (
  seated.0,
  subst (λ (last : Bool). RowAbove outputs last lower.cells upper.cells) (last_one upper rows) (each 0 (omega arith)),
  placed_above outputs upper rows seated.1 (λ r lt.
      subst (λ (last : Bool). RowAbove outputs last (row_at (upper.cells ∷ cells_of rows) r) (row_at (cells_of rows) r))
      (one_less (suc r) (length rows)) (each (suc r) (omega arith))),
)

above_at : (outputs : ℕ) (lower : PlacedRow) (rows : List PlacedRow) → PlacedAbove outputs lower rows
    → (r : ℕ) → r < length rows → RowAbove outputs (suc r == length rows) (row_at (lower.cells ∷ cells_of rows) r)
    (row_at (cells_of rows) r)
above_at outputs lower [] known r lt = absurd (omega arith)
above_at outputs lower (upper ∷ rows) known zero lt =
    subst (λ (last : Bool). RowAbove outputs last lower.cells upper.cells) (sym (last_one upper rows)) known.1
above_at outputs lower (upper ∷ rows) known (suc r) lt =
    subst (λ (last : Bool). RowAbove outputs last (row_at (upper.cells ∷ cells_of rows) r) (row_at (cells_of rows) r))
    (sym (one_less (suc r) (length rows)))
    (above_at outputs upper rows known.2 r (omega arith))

-- what a net in rows keeps of its first row, and of each other one
pub first_row : (net : RowView) → IsRowNet net → FirstRow net.inputs (row_at net.rows 0)
first_row net known = record {
  some = known.none_empty 0 (omega (arith, known.two_rows));
  stands = λ c cell is.
      let may = known.stands 0 c cell is in
      record {
        fed = may.fed;
        none_before = may.before;
        input = may.input;
        input_below = may.input_below;
        no_output = may.output ∙ ne_eqb 1 (length net.rows) (λ e. absurd (omega (arith, e, known.two_rows)));
      };
  feeds_one = known.feeds_one 0;
  each_input = known.each_input;
}

pub row_above : (net : RowView) → IsRowNet net → (r : ℕ) → suc r < length net.rows
    → RowAbove net.outputs (suc (suc r) == length net.rows) (row_at net.rows r) (row_at net.rows (suc r))
row_above net known r lt = record {
  some = known.none_empty (suc r) lt;
  stands = λ c cell is.
      let may = known.stands (suc r) c cell is in
      record {
        fed = may.fed;
        before = may.before;
        no_input = may.input;
        output = may.output;
        output_below = may.output_below;
        last_kind = λ last. may.last_kind (eqb-true (suc (suc r)) (length net.rows) last);
      };
  feeds_one = known.feeds_one (suc r);
  each_output = λ last i below.
      let e : last_of net.rows ≡ suc r = ap pred (sym (eqb-true (suc (suc r)) (length net.rows) last)) in
      subst (λ (n : ℕ). ExactlyOne (λ (c : ℕ). output_at (cell_at net.rows n c) ≡ Some i)) e
      (known.each_output i below);
}

-- and from these facts
first_cell_stands : (net : RowView) (c : ℕ) (cell : RowCell) → FirstCell net.inputs cell
    → 1 < length net.rows → MayStand net 0 cell
first_cell_stands net c cell known two = record {
  fed = known.fed;
  before = known.none_before;
  input = known.input;
  input_below = known.input_below;
  output = known.no_output ∙ sym (ne_eqb 1 (length net.rows) (λ e. absurd (omega (arith, e, two))));
  output_below = λ i is. absurd
      (none-some i (let h : is_some (Some i) ≡ false = sym (ap is_some is) ∙ known.no_output in absurd cc));
  last_kind = λ last. absurd (omega (arith, last, two));
}

cell_above_stands : (net : RowView) (r : ℕ) (cell : RowCell)
    → CellAbove net.outputs (suc (suc r) == length net.rows) (row_at net.rows r) cell → MayStand net (suc r) cell
cell_above_stands net r cell known = record {
  fed = known.fed;
  before = known.before;
  input = known.no_input;
  input_below = λ i is. absurd (let h : is_some (Some i) ≡ false = sym (ap is_some is) ∙ known.no_input in cc);
  output = known.output;
  output_below = known.output_below;
  last_kind = λ last. known.last_kind (eq-eqb (suc (suc r)) (length net.rows) last);
}

pub net_of_rows : (net : RowView) → 1 < length net.rows → FirstRow net.inputs (row_at net.rows 0)
    → ((r : ℕ) → suc r < length net.rows → RowAbove net.outputs (suc (suc r) == length net.rows) (row_at net.rows r)
    (row_at net.rows (suc r)))
    → length net.rows < 2 ^ 32 → ((r : ℕ) → length (row_at net.rows r) < 2 ^ 32) → IsRowNet net
net_of_rows net two first above few_rows few_cells = record {
  two_rows = two;
  none_empty = none_empty;
  stands = stands;
  feeds_one = feeds_one;
  each_input = first.each_input;
  each_output = λ i below.
      let n = length net.rows - 2 in
      let long : length net.rows ≡ suc (suc n) = omega (arith, two) in
      let e : last_of net.rows ≡ suc n = ap pred long in
      subst (λ (m : ℕ). ExactlyOne (λ (c : ℕ). output_at (cell_at net.rows m c) ≡ Some i)) (sym e)
      ((above n (omega (arith, two))).each_output (eq-eqb (suc (suc n)) (length net.rows) (sym long)) i below);
  few_rows = few_rows;
  few_cells = few_cells;
}
  where
    none_empty : (r : ℕ) → r < length net.rows → 0 < length (row_at net.rows r)
    none_empty zero lt = first.some
    none_empty (suc r) lt = (above r lt).some

    within : (rows : List (List RowCell)) (r c : ℕ) (cell : RowCell) → cell_at rows r c ≡ Some cell → r < length rows
    within [] r c cell is = absurd (none-some cell is)
    within (row ∷ rows) zero c cell is = omega arith
    within (row ∷ rows) (suc r) c cell is = let more = within rows r c cell is in omega arith

    stands : (r c : ℕ) (cell : RowCell) → cell_at net.rows r c ≡ Some cell → MayStand net r cell
    stands zero c cell is = first_cell_stands net c cell (first.stands c cell is) two
    stands (suc r) c cell is = cell_above_stands net r cell
        ((above r (within net.rows (suc r) c cell is)).stands c cell is)

    fed_within : (rows : List (List RowCell)) (r c i : ℕ) (s : Source)
        → fed_at (cell_at rows r c) i ≡ Some s → r < length rows
    fed_within [] r c i s is = absurd (none-some s is)
    fed_within (row ∷ rows) zero c i s is = omega arith
    fed_within (row ∷ rows) (suc r) c i s is = let more = fed_within rows r c i s is in omega arith

    feeds_one : EachFeedsOne net.rows
    feeds_one zero c d i j s a b = first.feeds_one c d i j s a b
    feeds_one (suc r) c d i j s a b = (above r (fed_within net.rows (suc r) c i s a)).feeds_one c d i j s a b

-- the same of placed nets
pub placed_facts : (inputs outputs : ℕ) (row : PlacedRow) (rows : List PlacedRow)
    → IsPlaced (placed_of inputs outputs (row ∷ rows))
    → FirstRow inputs row.cells × AreSeated 0 row.cells row.slots × PlacedAbove outputs row rows × (0 < length rows)
placed_facts inputs outputs row rows known =
    let net = (placed_of inputs outputs (row ∷ rows)).net in
    let long : length net.rows ≡ suc (length rows) = length-map (row ∷ rows) (λ (r : PlacedRow). r.cells) in (
      first_row net known.net_keeps,
      known.seated.0,
      placed_above outputs row rows known.seated.1 (λ r lt.
          subst (λ (last : Bool). RowAbove outputs last (row_at (cells_of (row ∷ rows)) r) (row_at (cells_of rows) r))
          (ap (λ (n : ℕ). suc (suc r) == n) long ∙ one_less (suc r) (length rows))
          (row_above net known.net_keeps r (omega (arith, lt, long)))),
      omega (arith, known.net_keeps.two_rows, long),
    )

each_seated : (outputs : ℕ) (lower : PlacedRow) (rows : List PlacedRow) → PlacedAbove outputs lower rows
    → EachSeated (cells_of rows) (slots_in rows)
each_seated outputs lower [] known = tt
each_seated outputs lower (upper ∷ rows) known = (known.0, each_seated outputs upper rows known.2)

pub placed_from : (inputs outputs : ℕ) (row : PlacedRow) (rows : List PlacedRow) → FirstRow inputs row.cells
    → AreSeated 0 row.cells row.slots
    → PlacedAbove outputs row rows → 0 < length rows → length (row ∷ rows) < 2 ^ 32
    → AllByRecursion (λ (r : PlacedRow). length r.cells < 2 ^ 32) (row ∷ rows)
    → IsPlaced (placed_of inputs outputs (row ∷ rows))
placed_from inputs outputs row rows first seated above some few_rows few_cells =
    let net = (placed_of inputs outputs (row ∷ rows)).net in
    let long : length net.rows ≡ suc (length rows) = length-map (row ∷ rows) (λ (r : PlacedRow). r.cells) in
    record {
      net_keeps = net_of_rows net (omega (arith, some, long)) first
          (λ r lt. subst (λ (last : Bool). RowAbove outputs last (row_at net.rows r) (row_at (cells_of rows) r))
          (sym (ap (λ (n : ℕ). suc (suc r) == n) long ∙ one_less (suc r) (length rows)))
          (above_at outputs row rows above r (omega (arith, lt, long))))
          (omega (arith, long, few_rows)) (few (row ∷ rows) few_cells);
      seated = (seated, each_seated outputs row rows above);
    }
  where
    few : (rs : List PlacedRow) → AllByRecursion (λ (r : PlacedRow). length r.cells < 2 ^ 32) rs → (r : ℕ)
        → length (row_at (cells_of rs) r) < 2 ^ 32
    few [] all r = omega arith
    few (r ∷ rs) all zero = all.0
    few (r ∷ rs) all (suc n) = few rs all.1 n
