-- Lemmas: rows in the order of given slots are the rows of the net in other orders, so they keep what it keeps and
-- answer as it does.
use Rattle.std.specs.Prelude.{◌≡◌, ℕ, zero, suc, ◌<◌, ◌==◌, true, false, List, [], ◌∷◌, length, map}
use Rattle.std.specs.Prelude.{slice_index_or}
use Rattle.std.proofs.Common.{refl, sym, ap, ◌∙◌, arith}
use Rattle.std.proofs.lemmas.Bool.{and_parts, eqb-true}
use Rattle.rowed.proofs.SeatLaws.{or_none}
use Rattle.rowed.specs.declared.row_cell.RowCell.{RowCell}
use Rattle.rowed.specs.RowNets.{RowView, row_at, IsRowNet}
use Rattle.rowed.specs.Slots.{EachSeated}
use Rattle.sorting.specs.Numbers.{IsOrder}
use Rattle.sorting.proofs.NumbersLaws.{order_by_key, length-by_key_numbers}
use Rattle.row_place.specs.Places.{renumbered_cell, picked}
use Rattle.row_place.specs.Arranged.{one_each, slot_at, slot_order, arranged_rows, arranged, IsArranged}
use Rattle.row_place.specs.Code.Arrays.{row_cells}
use Rattle.row_place.proofs.Reordered.{IsReordered}
use Rattle.row_place.proofs.PlanKeeps.{keeps_still}
use Rattle.row_place.proofs.PlanAnswers.{answers_still}

-- the order of the row before row r
abbrev before_by : List ℕ → List (List ℕ) → ℕ → List ℕ
before_by below slots zero = below
before_by below slots (suc r) = slot_order (slice_index_or slots r [])

-- each row has as many cells as slots
pub row_long_at : (rows : List (List RowCell)) (slots : List (List ℕ)) → one_each rows slots ≡ true → (r : ℕ)
    (row : List RowCell) (list : List ℕ) → r < length rows
    → length (slice_index_or slots r list) ≡ length (slice_index_or rows r row)
row_long_at [] slots e r d b lt = absurd (omega arith)
row_long_at (row ∷ rows) [] e r d b lt = absurd (cc)
row_long_at (row ∷ rows) (s ∷ slots) e zero d b lt =
    sym (eqb-true (length row) (length s) (and_parts (length row == length s) (one_each rows slots) e).0)
row_long_at (row ∷ rows) (s ∷ slots) e (suc r) d b lt =
    row_long_at rows slots (and_parts (length row == length s) (one_each rows slots) e).1 r d b (omega arith)

row_long : (rows : List (List RowCell)) (slots : List (List ℕ)) → one_each rows slots ≡ true → (r : ℕ)
    → length (slice_index_or slots r []) ≡ length (row_at rows r)
row_long [] [] e r = refl
row_long [] (s ∷ slots) e r = absurd (cc)
row_long (row ∷ rows) [] e r = absurd (cc)
row_long (row ∷ rows) (s ∷ slots) e zero =
    sym (eqb-true (length row) (length s) (and_parts (length row == length s) (one_each rows slots) e).0)
row_long (row ∷ rows) (s ∷ slots) e (suc r) =
    row_long rows slots (and_parts (length row == length s) (one_each rows slots) e).1 r

pub as_many : (rows : List (List RowCell)) (slots : List (List ℕ)) → one_each rows slots ≡ true
    → length slots ≡ length rows
as_many [] [] e = refl
as_many [] (s ∷ slots) e = absurd (cc)
as_many (row ∷ rows) [] e = absurd (cc)
as_many (row ∷ rows) (s ∷ slots) e =
    ap suc (as_many rows slots (and_parts (length row == length s) (one_each rows slots) e).1)

arranged_count : (below : List ℕ) (rows : List (List RowCell)) (slots : List (List ℕ)) → one_each rows slots ≡ true
    → length (row_cells (arranged_rows below rows slots)) ≡ length rows
arranged_count below [] slots e = refl
arranged_count below (row ∷ rows) [] e = absurd (cc)
arranged_count below (row ∷ rows) (s ∷ slots) e =
    ap suc (arranged_count (slot_order s) rows slots (and_parts (length row == length s) (one_each rows slots) e).1)

arranged_at : (below : List ℕ) (rows : List (List RowCell)) (slots : List (List ℕ)) → one_each rows slots ≡ true
    → (r : ℕ) → row_at (row_cells (arranged_rows below rows slots)) r
    ≡ map (renumbered_cell (before_by below slots r)) (picked (row_at rows r) (before_by below slots (suc r)))
arranged_at below [] [] e r = refl
arranged_at below [] (s ∷ slots) e r = absurd (cc)
arranged_at below (row ∷ rows) [] e r = absurd (cc)
arranged_at below (row ∷ rows) (s ∷ slots) e zero = refl
arranged_at below (row ∷ rows) (s ∷ slots) e (suc zero) =
    arranged_at (slot_order s) rows slots (and_parts (length row == length s) (one_each rows slots) e).1 0
arranged_at below (row ∷ rows) (s ∷ slots) e (suc (suc r)) =
    arranged_at (slot_order s) rows slots (and_parts (length row == length s) (one_each rows slots) e).1 (suc r)

slots_order : (slots : List ℕ) → IsOrder (slot_order slots)
slots_order slots = order_by_key (slot_at slots) (length slots)

-- the rows are those of the net, each in the order of its slots
reorders : (net : RowView) (slots : List (List ℕ)) → one_each net.rows slots ≡ true
    → IsReordered net.rows (arranged net slots).net.rows (before_by [] slots)
unfolding arranged
reorders net slots e = record {
  same_count = arranged_count [] net.rows slots e;
  in_order = arranged_at [] net.rows slots e;
  orders = λ r. slots_order (slice_index_or slots r []);
  same_lengths = λ r. length-by_key_numbers (slot_at (slice_index_or slots r [])) (length (slice_index_or slots r []))
      ∙ row_long net.rows slots e r;
}

pub arranged_keeps : (net : RowView) (slots : List (List ℕ)) → IsRowNet net → one_each net.rows slots ≡ true
    → IsRowNet (arranged net slots).net
unfolding arranged
arranged_keeps net slots known e =
    keeps_still net (arranged net slots).net (before_by [] slots) known refl refl (reorders net slots e)

-- where the slots are the cells' own, this is the placed net that is wanted
pub arranged_so : (net : RowView) (slots : List (List ℕ)) → IsRowNet net → one_each net.rows slots ≡ true
    → EachSeated (arranged net slots).net.rows (arranged net slots).slots → IsArranged net slots (arranged net slots)
unfolding arranged
arranged_so net slots known e seated = record {
  one_each_is = e;
  arranged_is = refl;
  keeps = record { net_keeps = arranged_keeps net slots known e; seated = seated };
  same = answers_still net (arranged net slots).net (before_by [] slots) known refl refl (reorders net slots e);
}

-- more rows than lists of slots, or fewer
pub none_each : (rows : List (List RowCell)) (slots : List (List ℕ)) → (length rows ≡ length slots → ⊥)
    → false ≡ one_each rows slots
none_each [] [] ne = absurd (ne refl)
none_each [] (s ∷ slots) ne = refl
none_each (row ∷ rows) [] ne = refl
none_each (row ∷ rows) (s ∷ slots) ne =
    or_none (length row == length s) (one_each rows slots) (none_each rows slots (λ e. ne (ap suc e)))
