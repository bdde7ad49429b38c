-- Lemmas of the slots of packed cells: each is the sum of those that the cells before it take, and no span is greater
-- than the widest row's.
use Rattle.std.proofs.Common.{◌≡◌, ℕ, zero, suc, ◌+◌, ◌<◌, ◌≤◌, List, [], ◌∷◌, length, map, take, get_or, slice_get}
use Rattle.std.proofs.Common.{Some, refl, ap, ◌∙◌, arith}
use Rattle.std.proofs.lemmas.Option.{same_Some}
use Rattle.circuit.specs.CellKinds.{slots_of}
use Rattle.rowed.specs.declared.row_cell.RowCell.{RowCell}
use Rattle.rowed.specs.RowNets.{RowView, row_at, cell_at}
use Rattle.rowed.specs.Slots.{span_of}
use Rattle.rowed.specs.Extent.{packed_span, widest_packed}
use Rattle.row_place.specs.Places.{packed}
use Rattle.row_place.specs.Spans.{span_at, IsGreatestSpan}
use Rattle.row_place.proofs.PlanSpans.{span_from, none_wider, as_wide}
use Rattle.plan_draw.specs.Packs.{pack, slot_in}

-- the slots of one row
row_packed : (rows : List (List RowCell)) (r : ℕ) → get_or (map (packed 0) rows) r [] ≡ packed 0 (row_at rows r)
row_packed [] r = refl
row_packed (row ∷ rows) zero = refl
row_packed (row ∷ rows) (suc r) = row_packed rows r

as_many : (b : ℕ) (cells : List RowCell) → length (packed b cells) ≡ length cells
as_many b [] = refl
as_many b (cell ∷ cells) = ap suc (as_many (b + slots_of cell.kind) cells)

slot_sum : (b : ℕ) (cells : List RowCell) (c : ℕ) → c < length cells
    → get_or (packed b cells) c 0 ≡ b + packed_span (take c cells)
slot_sum b [] c lt = absurd (omega arith)
slot_sum b (cell ∷ cells) zero lt = omega arith
slot_sum b (cell ∷ cells) (suc c) lt = omega (arith, slot_sum (b + slots_of cell.kind) cells c (omega arith))

-- one more cell takes its slots
one_more : (cells : List RowCell) (c : ℕ) (cell : RowCell) → slice_get cells c ≡ Some cell
    → packed_span (take (suc c) cells) ≡ packed_span (take c cells) + slots_of cell.kind
one_more [] c cell e = absurd cc
one_more (first ∷ cells) zero cell e =
    omega (arith, ap (λ (x : RowCell). slots_of x.kind) (same_Some _ _ e))
one_more (first ∷ cells) (suc c) cell e = omega (arith, one_more cells c cell e)

none_of_none : (c : ℕ) → packed_span (take c []) ≡ 0
none_of_none zero = refl
none_of_none (suc c) = refl

no_fewer : (cells : List RowCell) (c d : ℕ) → c ≤ d → packed_span (take c cells) ≤ packed_span (take d cells)
no_fewer [] c d le = omega (arith, none_of_none c)
no_fewer (cell ∷ cells) zero d le = omega arith
no_fewer (cell ∷ cells) (suc c) zero le = absurd (omega arith)
no_fewer (cell ∷ cells) (suc c) (suc d) le = omega (arith, no_fewer cells c d (omega arith))

-- there is a slot for each cell, the sum of the slots that the cells before it take
pub count_is : (net : RowView) (r : ℕ) → length (get_or (pack net).slots r []) ≡ length (row_at net.rows r)
count_is net r = ap length (row_packed net.rows r) ∙ as_many 0 (row_at net.rows r)

pub sum_is : (net : RowView) (r c : ℕ) → c < length (row_at net.rows r)
    → slot_in (pack net) r c ≡ packed_span (take c (row_at net.rows r))
sum_is net r c lt =
    ap (λ (slots : List ℕ). get_or slots c 0) (row_packed net.rows r)
    ∙ (omega (arith, slot_sum 0 (row_at net.rows r) c lt))

-- the next cell begins where this one ends, and each later one there or past it
pub behind_is : (net : RowView) (r c : ℕ) (cell : RowCell) → cell_at net.rows r c ≡ Some cell
    → suc c < length (row_at net.rows r) → slot_in (pack net) r (suc c) ≡ slot_in (pack net) r c + slots_of cell.kind
behind_is net r c cell e lt =
    omega (arith, sum_is net r (suc c) lt, sum_is net r c (omega arith), one_more (row_at net.rows r) c cell e)

pub apart_is : (net : RowView) (r c d : ℕ) (cell : RowCell) → cell_at net.rows r c ≡ Some cell → c < d
    → d < length (row_at net.rows r) → slot_in (pack net) r c + slots_of cell.kind ≤ slot_in (pack net) r d
apart_is net r c d cell e past lt =
    let ended = one_more (row_at net.rows r) c cell e in
    let later = no_fewer (row_at net.rows r) (suc c) d (omega arith) in
    omega (arith, sum_is net r d lt, sum_is net r c (omega arith), ended, later)

-- a packed row spans the slots that its cells take
span_packed : (cells : List RowCell) → span_of cells (packed 0 cells) ≡ packed_span cells
span_packed [] = refl
span_packed (cell ∷ cells) = omega (arith, span_from 0 cell cells)

pub span_is : (net : RowView) (r : ℕ) → span_at (pack net) r ≡ packed_span (row_at net.rows r)
span_is net r = ap (span_of (row_at net.rows r)) (row_packed net.rows r) ∙ span_packed (row_at net.rows r)

pub greatest_is : (net : RowView) → IsGreatestSpan (pack net) (widest_packed net.rows)
greatest_is net =
    let there = as_wide net.rows in
    record {
      none_wider = λ r. omega (arith, span_is net r, none_wider net.rows r);
      as_wide = (there.0, span_is net there.0 ∙ there.1);
    }
