-- Lemmas of packed rows: their cells are seated, so a packed net is placed and is what the call is to give.
use Rattle.std.proofs.Common.{◌≡◌, ℕ, ◌+◌, ◌*◌, ◌≤◌, List, [], ◌∷◌, map, refl, sym, subst, arith, inl, inr}
use Rattle.std.specs.List.{AllByRecursion}
use Rattle.std.proofs.lemmas.Bool.{cases_lt}
use Rattle.std.proofs.lemmas.Nat.{mul-le}
use Rattle.circuit.specs.CellKinds.{slots_of}
use Rattle.rowed.specs.declared.row_cell.RowCell.{RowCell}
use Rattle.rowed.specs.RowNets.{RowView, IsRowNet}
use Rattle.rowed.specs.PlacedNets.{IsPlaced}
use Rattle.rowed.specs.Slots.{AreSeated, EachSeated}
use Rattle.rowed.specs.Limits.{slot_limit, width_limit}
use Rattle.rowed.specs.Extent.{packed_span, widest_packed}
use Rattle.row_place.specs.Places.{packed}
use Rattle.row_place.specs.Passes.{IsTooWide}
use Rattle.row_place.specs.declared.pass.PlaceRefusal.{PlaceRefusal}
use Rattle.row_place.specs.declared.pass.PlaceRefusal.TheVariants.{TooWide}
use Rattle.plan_draw.specs.Packs.{pack, IsPacked}

-- packed cells stand one beside the other
packed_seated : (b : ℕ) (cells : List RowCell) → b + packed_span cells ≤ slot_limit
    → AreSeated b cells (packed b cells)
packed_seated b [] fits = tt
packed_seated b (cell ∷ cells) fits =
    ((omega arith), (omega arith), packed_seated (b + slots_of cell.kind) cells (omega arith))

each_seated : (rows : List (List RowCell)) → widest_packed rows ≤ slot_limit
    → EachSeated rows (map (packed 0) rows)
each_seated [] fits = tt
each_seated (row ∷ rows) fits = (packed_seated 0 row (omega arith), each_seated rows (omega arith))

pub packed_keeps : (net : RowView) → IsRowNet net → widest_packed net.rows ≤ slot_limit → IsPlaced (pack net)
packed_keeps net known fits = record { net_keeps = known; seated = each_seated net.rows fits }

-- slots of one nanometre or more
fits_slots : (span width : ℕ) → 1 ≤ width → span * width ≤ width_limit → span ≤ slot_limit
fits_slots span width some within = omega (arith, mul-le span 1 span width (omega arith) some)

narrow : (rows : List (List RowCell)) → widest_packed rows ≤ slot_limit
    → AllByRecursion (λ row. packed_span row ≤ slot_limit) rows
narrow [] le = tt
narrow (row ∷ rows) le = (omega arith, narrow rows (omega arith))

pub narrow_rows : (rows : List (List RowCell)) (width : ℕ) → 1 ≤ width → widest_packed rows * width ≤ width_limit
    → AllByRecursion (λ row. packed_span row ≤ slot_limit) rows
narrow_rows rows width some within = narrow rows (fits_slots (widest_packed rows) width some within)

pub packed_given : (net : RowView) (width : ℕ) → IsRowNet net → 1 ≤ width
    → widest_packed net.rows * width ≤ width_limit → IsPacked net width (pack net)
packed_given net width known some within = record {
  placed_keeps = packed_keeps net known (fits_slots (widest_packed net.rows) width some within);
  is_packed = refl;
  within = within;
  same = record {
    same_inputs = refl;
    same_outputs = refl;
    there = λ x y long answer. answer;
    back = λ x y long answer. answer;
  };
}

pub given_unless_refused : (net : RowView) (width : ℕ) → IsRowNet net → 1 ≤ width
    → ((refusal : PlaceRefusal) → IsTooWide net width refusal → ⊥) → IsPacked net width (pack net)
given_unless_refused net width known some none = elim (cases_lt width_limit (widest_packed net.rows * width)) [
  | inl past ↦ absurd (none (TooWide (widest_packed net.rows)) (past, refl))
  | inr within ↦ packed_given net width known some within
]

-- slots that are those of the packed rows, which a list of lists of the code is, make the packed net
pub packed_slots : (net : RowView) (width : ℕ) (slots : List (List ℕ)) → IsRowNet net → 1 ≤ width
    → widest_packed net.rows * width ≤ width_limit → slots ≡ map (packed 0) net.rows
    → IsPacked net width (record { net = net; slots = slots; lag = 0 })
packed_slots net width slots known some within are =
    subst (λ (s : List (List ℕ)). IsPacked net width (record { net = net; slots = s; lag = 0 })) (sym are)
    (packed_given net width known some within)
