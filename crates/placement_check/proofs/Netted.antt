-- Rows are those of a net exactly where they pass the tests.
use Rattle.std.proofs.Common.{◌≡◌, ◌+◌, ◌<◌, ◌≤◌, ◌^◌, ℕ, zero, suc, List, [], ◌∷◌, Bool, true, false, cond, length}
use Rattle.std.proofs.Common.{refl, sym, ap, ◌∙◌, subst, arith, ltb, inl, inr}
use Rattle.std.specs.Prelude.{◌&&◌, ◌==◌, nat_le}
use Rattle.std.proofs.lemmas.Bool.{and_parts, eq-eqb, ne_eqb, ltb-true, lt-ltb, leb-true, le-leb, cases_lt}
use Rattle.rowed.specs.declared.row_cell.RowCell.{RowCell}
use Rattle.rowed.specs.RowNets.{RowView, IsRowNet, row_at}
use Rattle.rowed.proofs.RowsAboveLaws as laws
use Rattle.placement_check.specs.Code.Rows.{row_limit, is_first_row, is_row_above, is_row, are_rows, is_net}
use Rattle.placement_check.proofs.Numbered.{both}
use Rattle.placement_check.proofs.Stands.{first_size, first_row, above_size, row_above, first_row_test, row_above_test}

row_size : (inputs outputs count n : ℕ) (below row : List RowCell) (first : Bool)
    → cond first (is_first_row inputs row) (is_row_above outputs (n + 1 == count) below row) ≡ true
    → length row ≤ row_limit
row_size inputs outputs count n below row true e = first_size inputs row e
row_size inputs outputs count n below row false e = above_size outputs (n + 1 == count) below row e

-- the tests of all rows, one by one

rows_at : (inputs outputs count n : ℕ) (below : List RowCell) (rows : List (List RowCell))
    → are_rows inputs outputs count n below rows ≡ true
    → (k : ℕ) → k < length rows → is_row inputs outputs count (n + k) (row_at (below ∷ rows) k) (row_at rows k) ≡ true
rows_at inputs outputs count n below [] e k lt = absurd (omega arith)
rows_at inputs outputs count n below (row ∷ rows) e zero lt =
    let at : n ≡ n + 0 = omega arith in
    subst (λ (m : ℕ). is_row inputs outputs count m below row ≡ true) at
    (and_parts (is_row inputs outputs count n below row) (are_rows inputs outputs count (n + 1) row rows) e).0
rows_at inputs outputs count n below (row ∷ rows) e (suc k) lt =
    let at : n + 1 + k ≡ n + suc k = omega arith in
    subst (λ (m : ℕ). is_row inputs outputs count m (row_at (row ∷ rows) k) (row_at rows k) ≡ true) at
    (rows_at inputs outputs count (n + 1) row rows
    (and_parts (is_row inputs outputs count n below row) (are_rows inputs outputs count (n + 1) row rows) e).1 k
    (omega arith))

rows_from : (inputs outputs count n : ℕ) (below : List RowCell) (rows : List (List RowCell))
    → ((k : ℕ) → k < length rows → is_row inputs outputs count (n + k) (row_at (below ∷ rows) k) (row_at rows k) ≡ true)
    → are_rows inputs outputs count n below rows ≡ true
rows_from inputs outputs count n below [] each = refl
rows_from inputs outputs count n below (row ∷ rows) each =
    let at : n + 0 ≡ n = omega arith in
    both (is_row inputs outputs count n below row) (are_rows inputs outputs count (n + 1) row rows)
    (subst (λ (m : ℕ). is_row inputs outputs count m below row ≡ true) at (each 0 (omega arith)))
    (rows_from inputs outputs count (n + 1) row rows (λ k lt.
    let next : n + suc k ≡ n + 1 + k = omega arith in
    subst (λ (m : ℕ). is_row inputs outputs count m (row_at (row ∷ rows) k) (row_at rows k) ≡ true) next
    (each (suc k) (omega arith))))

-- the first row, and one above it
as_first : (inputs outputs count n : ℕ) (below row : List RowCell) → n ≡ 0
    → is_row inputs outputs count n below row ≡ is_first_row inputs row
as_first inputs outputs count n below row e =
    ap (λ (t : Bool). cond t (is_first_row inputs row) (is_row_above outputs (n + 1 == count) below row)) (eq-eqb n 0 e)

as_above : (inputs outputs count n : ℕ) (below row : List RowCell) → (n ≡ 0 → ⊥)
    → is_row inputs outputs count n below row ≡ is_row_above outputs (n + 1 == count) below row
as_above inputs outputs count n below row ne =
    ap (λ (t : Bool). cond t (is_first_row inputs row) (is_row_above outputs (n + 1 == count) below row))
    (ne_eqb n 0 ne)

abbrev view : ℕ → ℕ → List (List RowCell) → RowView
view inputs outputs rows = record { inputs = inputs; outputs = outputs; rows = rows }

-- a row past the last is empty
past : (rows : List (List RowCell)) (r : ℕ) → length rows ≤ r → row_at rows r ≡ []
past [] r le = refl
past (row ∷ rows) zero le = absurd (omega arith)
past (row ∷ rows) (suc r) le = past rows r (omega arith)

record NetTests (inputs outputs : ℕ) (rows : List (List RowCell)) : Type 0 where
  two : 1 < length rows
  few : length rows ≤ row_limit
  each : (k : ℕ) → k < length rows
      → is_row inputs outputs (length rows) (0 + k) (row_at ([] ∷ rows) k) (row_at rows k) ≡ true

net_tests : (inputs outputs : ℕ) (rows : List (List RowCell)) → is_net inputs outputs rows ≡ true
    → NetTests inputs outputs rows
net_tests inputs outputs rows e =
    let parts = and_parts (ltb 1 (length rows) && nat_le (length rows) row_limit)
    (are_rows inputs outputs (length rows) 0 [] rows) e in
    let sizes = and_parts (ltb 1 (length rows)) (nat_le (length rows) row_limit) parts.0 in
    record {
      two = ltb-true 1 (length rows) sizes.0;
      few = leb-true (length rows) row_limit sizes.1;
      each = rows_at inputs outputs (length rows) 0 [] rows parts.1;
    }

few_cells : (inputs outputs : ℕ) (rows : List (List RowCell)) → NetTests inputs outputs rows → (r : ℕ)
    → length (row_at rows r) < 2 ^ 32
few_cells inputs outputs rows tests r = elim (cases_lt r (length rows)) [
  | inl lt ↦ (let few = row_size inputs outputs (length rows) (0 + r) (row_at ([] ∷ rows) r) (row_at rows r)
      (0 + r == 0) (tests.each r lt) in omega (arith, few))
  | inr le ↦ (let none = ap length (past rows r le) in omega (arith, none))
]

pub tested_net : (inputs outputs : ℕ) (rows : List (List RowCell)) → is_net inputs outputs rows ≡ true
    → IsRowNet (view inputs outputs rows)
tested_net inputs outputs rows e =
    let tests = net_tests inputs outputs rows e in
    let two = tests.two in
    let few = tests.few in
    let count = length rows in
    laws.net_of_rows (view inputs outputs rows) two
    (first_row inputs (row_at rows 0)
    (sym (as_first inputs outputs count (0 + 0) (row_at ([] ∷ rows) 0) (row_at rows 0) (omega arith))
    ∙ tests.each 0 (omega arith)))
    (λ r lt.
    let above = sym (as_above inputs outputs count (0 + suc r) (row_at rows r) (row_at rows (suc r))
    (λ z. absurd (omega (arith, z)))) ∙ tests.each (suc r) lt in
    let at : 0 + suc r + 1 ≡ suc (suc r) = omega arith in
    row_above outputs (suc (suc r) == count) (row_at rows r) (row_at rows (suc r))
    (subst (λ (n : ℕ). is_row_above outputs (n == count) (row_at rows r) (row_at rows (suc r)) ≡ true) at above))
    (omega (arith, few)) (few_cells inputs outputs rows tests)

-- and back
pub net_test : (inputs outputs : ℕ) (rows : List (List RowCell)) → IsRowNet (view inputs outputs rows)
    → is_net inputs outputs rows ≡ true
net_test inputs outputs rows known =
    let net = view inputs outputs rows in
    let count = length rows in
    let two = known.two_rows in
    let few = known.few_rows in
    both (ltb 1 count && nat_le count row_limit) (are_rows inputs outputs count 0 [] rows)
    (both (ltb 1 count) (nat_le count row_limit) (lt-ltb 1 count two) (le-leb count row_limit (omega (arith, few))))
    (rows_from inputs outputs count 0 [] rows each)
  where
    each : (k : ℕ) → k < length rows
        → is_row inputs outputs (length rows) (0 + k) (row_at ([] ∷ rows) k) (row_at rows k) ≡ true
    each zero lt =
        as_first inputs outputs (length rows) (0 + 0) [] (row_at rows 0) (omega arith)
        ∙ first_row_test inputs (row_at rows 0) (let few = known.few_cells 0 in omega (arith, few))
        (laws.first_row (view inputs outputs rows) known)
    each (suc k) lt =
        let at : suc (suc k) ≡ 0 + suc k + 1 = omega arith in
        as_above inputs outputs (length rows) (0 + suc k) (row_at rows k) (row_at rows (suc k))
        (λ z. absurd (omega (arith, z)))
        ∙ subst (λ (n : ℕ). is_row_above outputs (n == length rows) (row_at rows k) (row_at rows (suc k)) ≡ true) at
        (row_above_test outputs (suc (suc k) == length rows) (row_at rows k) (row_at rows (suc k))
        (let few = known.few_cells (suc k) in omega (arith, few))
        (laws.row_above (view inputs outputs rows) known k lt))
