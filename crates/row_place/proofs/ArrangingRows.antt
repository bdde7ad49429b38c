-- Lemmas on the loop that arranges rows.
use Rattle.std.proofs.Common.{◌≡◌, ℕ, ◌<◌, ◌≤◌, ◌^◌, List, [], ◌∷◌, ◌++◌, length, drop, map, refl, sym, ◌∙◌, ap, subst}
use Rattle.std.proofs.Common.{arith, length-append, true, false}
use Rattle.std.proofs.lemmas.List.{append-nil, drop_all}
use Rattle.rowed.specs.declared.row_cell.RowCell.{RowCell}
use Rattle.rowed.specs.RowNets.{RowView, IsRowNet}
use Rattle.rowed.specs.PlacedNets.{PlacedView}
use Rattle.rowed.specs.Slots.{EachSeated}
use Rattle.rowed.specs.SeatTests.{each_seated}
use Rattle.rowed.proofs.SeatLaws.{rows_seated, rows_test}
use Rattle.row_place.specs.Places.{renumbered_cell, picked}
use Rattle.row_place.specs.Arranged.{one_each, slot_at, slot_order, arranged_rows, arranged, IsArranged}
use Rattle.row_place.specs.Code.Arrays.{row_cells, row_slots}
use Rattle.row_place.proofs.ArrangedRows.{arranged_so}

-- the rest of the rows is the row that was made, and the rest after it
pub one_arranged : (old : List ℕ) {rows rest : List (List RowCell)} {slots more : List (List ℕ)} {row : List RowCell}
    {slot made : List ℕ} → rows ≡ row ∷ rest → slots ≡ slot ∷ more → made ≡ map (slot_at slot) (slot_order slot)
    → arranged_rows old rows slots ≡ record {
      cells = map (renumbered_cell old) (picked row (slot_order slot));
      slots = made;
    } ∷ arranged_rows (slot_order slot) rest more
one_arranged old here there is = rw (here, there, is) refl

-- all keys, at the end of the loop
pub all_keys : (slots keys : List ℕ) (n : ℕ) → length slots ≤ n → keys ++ drop n slots ≡ slots → keys ≡ slots
all_keys slots keys n past e = sym (append-nil keys) ∙ sym (ap (λ (l : List ℕ). keys ++ l) (drop_all n slots past)) ∙ e

pub few_keys : (slots keys : List ℕ) (n : ℕ) → keys ++ drop n slots ≡ slots
    → length slots < 2 ^ 32 → length keys < 2 ^ 32
few_keys slots keys n e few = omega (arith, length-append keys (drop n slots), ap length e, few)

-- rows arranged so, and their slots, are the net's at these slots
arranged_is : (net : RowView) (slots : List (List ℕ)) (cells : List (List RowCell)) (lists : List (List ℕ))
    → cells ≡ row_cells (arranged_rows [] net.rows slots) → lists ≡ row_slots (arranged_rows [] net.rows slots)
    → arranged net slots ≡ record {
      net = record { inputs = net.inputs; outputs = net.outputs; rows = cells };
      slots = lists;
      lag = 0;
    }
unfolding arranged
arranged_is net slots cells lists cells_are lists_are =
    let P : List (List RowCell) → List (List ℕ) → PlacedView =
    λ c s. record { net = record { inputs = net.inputs; outputs = net.outputs; rows = c }; slots = s; lag = 0 } in
    ap (λ c. P c (row_slots (arranged_rows [] net.rows slots))) (sym cells_are) ∙ ap (P cells) (sym lists_are)

pub given_arranged : (net : RowView) (slots : List (List ℕ)) (cells : List (List RowCell)) (lists : List (List ℕ))
    → IsRowNet net → one_each net.rows slots ≡ true → cells ≡ row_cells (arranged_rows [] net.rows slots)
    → lists ≡ row_slots (arranged_rows [] net.rows slots) → each_seated cells lists ≡ true
    → IsArranged net slots (record {
      net = record { inputs = net.inputs; outputs = net.outputs; rows = cells };
      slots = lists;
      lag = 0;
    })
given_arranged net slots cells lists known each cells_are lists_are seated =
    let is = arranged_is net slots cells lists cells_are lists_are in
    subst (IsArranged net slots) is (arranged_so net slots known each
    (subst (λ (p : PlacedView). EachSeated p.net.rows p.slots) (sym is) (rows_seated cells lists seated)))

pub not_seated : (net : RowView) (slots : List (List ℕ)) (cells : List (List RowCell)) (lists : List (List ℕ))
    → cells ≡ row_cells (arranged_rows [] net.rows slots) → lists ≡ row_slots (arranged_rows [] net.rows slots)
    → each_seated cells lists ≡ false
    → EachSeated (arranged net slots).net.rows (arranged net slots).slots → false ≡ true
not_seated net slots cells lists cells_are lists_are not seated =
    sym not ∙ rows_test cells lists (subst (λ (p : PlacedView). EachSeated p.net.rows p.slots)
    (arranged_is net slots cells lists cells_are lists_are) seated)
