-- Lemmas on whole nets: rows that are placed as in the plan are what the pass is to give.
use Rattle.std.proofs.Common.{◌≡◌, ℕ, suc, ◌*◌, ◌<◌, ◌≤◌, ◌^◌, List, [], ◌∷◌, length, get_or, sym, ◌∙◌, ap, subst}
use Rattle.std.proofs.Common.{arith}
use Rattle.std.specs.List.{AllByRecursion}
use Rattle.std.proofs.lemmas.Nat.{mul-le}
use Rattle.rowed.specs.declared.row_cell.RowCell.{RowCell}
use Rattle.rowed.specs.RowNets.{RowView, IsRowNet}
use Rattle.rowed.specs.PlacedNets.{PlacedView}
use Rattle.rowed.specs.Limits.{slot_limit, width_limit}
use Rattle.rowed.specs.Extent.{packed_span, widest_packed}
use Rattle.row_place.specs.Places.{place, place_rows, no_order}
use Rattle.row_place.specs.Code.Arrays.{row_cells, row_slots}
use Rattle.row_place.specs.Passes.{ArePlaces}
use Rattle.row_place.proofs.PlanGiven.{plan_given}

pub few_cells : (rows : List (List RowCell)) → ((r : ℕ) → length (get_or rows r []) < 2 ^ 32)
    → AllByRecursion (λ row. length row < 2 ^ 32) rows
few_cells [] few = tt
few_cells (row ∷ rows) few = (few 0, few_cells rows (λ r. few (suc r)))

narrow : (rows : List (List RowCell)) → widest_packed rows ≤ slot_limit
    → AllByRecursion (λ row. packed_span row ≤ slot_limit) rows
narrow [] le = tt
narrow (row ∷ rows) le = (omega arith, narrow rows (omega arith))

pub narrow_rows : (rows : List (List RowCell)) (span width : ℕ) → 1 ≤ width → span ≡ widest_packed rows
    → span * width ≤ width_limit → AllByRecursion (λ row. packed_span row ≤ slot_limit) rows
narrow_rows rows span width some is within = narrow rows (omega (arith, mul-le span 1 span width (omega arith) some))

plan_is : (net : RowView) (cells : List (List RowCell)) (slots : List (List ℕ))
    → cells ≡ row_cells (place_rows no_order net.rows) → slots ≡ row_slots (place_rows no_order net.rows)
    → place net ≡ record {
      net = record { inputs = net.inputs; outputs = net.outputs; rows = cells };
      slots = slots;
      lag = 0;
    }
unfolding place
plan_is net cells slots cells_are slots_are =
    let P : List (List RowCell) → List (List ℕ)
    → PlacedView = λ c s. record {
      net = record { inputs = net.inputs; outputs = net.outputs; rows = c };
      slots = s;
      lag = 0;
    } in
    ap (λ c. P c (row_slots (place_rows no_order net.rows))) (sym cells_are) ∙ ap (P cells) (sym slots_are)

pub given_places : (net : RowView) (span width : ℕ) (cells : List (List RowCell)) (slots : List (List ℕ)) → IsRowNet net
    → 1 ≤ width → span ≡ widest_packed net.rows → span * width ≤ width_limit
    → cells ≡ row_cells (place_rows no_order net.rows) → slots ≡ row_slots (place_rows no_order net.rows)
    → ArePlaces net width (record {
      net = record { inputs = net.inputs; outputs = net.outputs; rows = cells };
      slots = slots;
      lag = 0;
    })
given_places net span width cells slots known some is within cells_are slots_are =
    subst (ArePlaces net width) (plan_is net cells slots cells_are slots_are)
    (plan_given net width known some (subst (λ (n : ℕ). n * width ≤ width_limit) is within))
