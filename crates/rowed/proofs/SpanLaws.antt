-- The spans of rows, cell by cell and row by row.
use Rattle.std.proofs.Common.{◌≡◌, ℕ, zero, suc, ◌+◌, ◌*◌, ◌<◌, ◌≤◌, max, List, [], ◌∷◌, length, drop, refl, ap, sym}
use Rattle.std.proofs.Common.{◌∙◌, get_or, arith}
use Rattle.std.specs.Prelude.{slice_get, slice_index_or, Some}
use Rattle.std.proofs.lemmas.Option.{same_Some}
use Rattle.circuit.specs.CellKinds.{slots_of}
use Rattle.circuit.specs.declared.cell_kind.CellKind.{CellKind}
use Rattle.circuit.specs.declared.cell_kind.CellKind.TheVariants.{Buffer}
use Rattle.rowed.specs.declared.row_cell.RowCell.{RowCell}
use Rattle.rowed.specs.RowNets.{row_at}
use Rattle.rowed.specs.Slots.{span_of, EachSeated}
use Rattle.rowed.specs.PlacedNets.{PlacedView, IsPlaced, paired}
use Rattle.rowed.specs.Extent.{packed_span, widest}
use Rattle.rowed.proofs.PinLaws.{seated_length}
use Rattle.rowed.proofs.NumberedRows.{as_many_slots}

-- a cell takes at most three slots

pub at_most_three : (kind : CellKind) → slots_of kind ≤ 3
at_most_three Buffer = omega arith
at_most_three kind = omega arith

pub packed_few : (row : List RowCell) → packed_span row ≤ 3 * length row
packed_few [] = omega arith
packed_few (cell ∷ cells) = omega (arith, at_most_three cell.kind, packed_few cells)

-- there is a list of slots for each row, and a slot for each cell

pub long_row : (rows : List (List RowCell)) (slots : List (List ℕ)) (r : ℕ) → EachSeated rows slots
    → length (slice_index_or slots r []) ≡ length (row_at rows r)
long_row [] [] r h = refl
long_row [] (s ∷ slots) r h = absurd h
long_row (row ∷ rows) [] r h = absurd h
long_row (row ∷ rows) (s ∷ slots) zero h = seated_length 0 row s h.0
long_row (row ∷ rows) (s ∷ slots) (suc r) h = long_row rows slots r h.1

pub as_many : (p : PlacedView) → IsPlaced p → length p.slots ≡ length p.net.rows
as_many p is = as_many_slots p.net.rows p.slots is.seated

pub got_at : {A : Type 0} (xs : List A) (n : ℕ) (x d : A) → slice_get xs n ≡ Some x → x ≡ get_or xs n d
got_at [] n x d e = absurd cc
got_at (y ∷ xs) zero x d e = sym (same_Some _ _ e)
got_at (y ∷ xs) (suc n) x d e = got_at xs n x d e

-- the span of the rows from one on, and that of the next ones

widest_at : (rows : List (List RowCell)) (slots : List (List ℕ)) (n : ℕ) → n < length rows → n < length slots
    → widest (paired (drop n rows) (drop n slots)) ≡ max (span_of (row_at rows n) (slice_index_or slots n []))
    (widest (paired (drop (suc n) rows) (drop (suc n) slots)))
widest_at [] slots n lt l = absurd (omega arith)
widest_at (row ∷ rows) [] n lt l = absurd (omega arith)
widest_at (row ∷ rows) (s ∷ slots) zero lt l = refl
widest_at (row ∷ rows) (s ∷ slots) (suc n) lt l = widest_at rows slots n (omega arith) (omega arith)

pub widest_next : (rows : List (List RowCell)) (slots : List (List ℕ)) (n old new all : ℕ) → n < length rows
    → n < length slots → new ≡ max (span_of (row_at rows n) (slice_index_or slots n [])) old
    → max old (widest (paired (drop n rows) (drop n slots))) ≡ all
    → max new (widest (paired (drop (n + 1) rows) (drop (n + 1) slots))) ≡ all
widest_next rows slots n old new all lt l is so =
    let e = widest_at rows slots n lt l in
    let m = widest (paired (drop (suc n) rows) (drop (suc n) slots)) in
    let k : widest (paired (drop (n + 1) rows) (drop (n + 1) slots)) ≡ m =
    ap (λ (i : ℕ). widest (paired (drop i rows) (drop i slots))) (let h : n + 1 ≡ suc n = omega arith in h) in
    omega arith

pub same_span : (n : ℕ) (cells more : List RowCell) (slots others : List ℕ) → n ≡ span_of cells slots → cells ≡ more
    → slots ≡ others → n ≡ span_of more others
same_span n cells more slots others e f g = e ∙ ap (λ (c : List RowCell). span_of c slots) f
    ∙ ap (λ (s : List ℕ). span_of more s) g
