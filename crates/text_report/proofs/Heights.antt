-- The row to which a height belongs is one, and the search for it finds that one.
use Rattle.std.proofs.Common.{◌≡◌, ℕ, suc, ◌-◌, ◌<◌, ◌≤◌, Bool, true, false, List, length, get_or, Some, ℤ, refl, sym}
use Rattle.std.proofs.Common.{ap, subst, ◌∙◌, arith, inl, inr}
use Rattle.std.specs.Prelude.{slice_get, int_lt, int_le}
use Rattle.std.specs.Ordering.{int_cmp, ordering_index}
use Rattle.std.specs.declared.cmp.Ordering.TheVariants.{Less, Equal, Greater}
use Rattle.std.specs.List.Sorted.{IsNonDecreasingBy, IsPartitionPoint}
use Rattle.std.proofs.lemmas.Bool.{cases_order, cases_lt, cases_eq}
use Rattle.std.proofs.lemmas.Int.{ints}
use Rattle.std.proofs.lemmas.Cmp.{int_cmp_total}
use Rattle.std.proofs.lemmas.List.Sorted.{searchable_from_sorted}
use Rattle.std.proofs.lemmas.Option.{same_Some, slice_get_within, slice_get-get_or, get_or_from_slice_get}
use Rattle.shape_extract.specs.Code.Edges.{Rises}
use Rattle.shape_extract.proofs.RowEdges.{sorted_from_rises}
use Rattle.text_report.specs.Code.Heights.{BelongsTo}

pub at_self : (y : ℤ) → int_le y y ≡ true
at_self y = grind (arith, ints)

-- at or above an edge that is at or above another, which is above the height: that can't be
no_height : (y low edge : ℤ) → int_lt y low ≡ true → int_lt edge low ≡ false → int_le edge y ≡ true → ⊥
no_height y low edge below above reached = grind (arith, ints)

not_less : (low edge : ℤ) → int_lt low edge ≡ true → int_lt edge low ≡ false
not_less low edge h = grind (arith, ints)

not_self : (edge : ℤ) → int_lt edge edge ≡ false
not_self edge = grind (arith, ints)

-- a height below the edge after row i doesn't reach the edge of a higher row
not_higher : (edges : List ℤ) (i j : ℕ) (y : ℤ) → Rises edges → BelongsTo edges i y → BelongsTo edges j y → i < j → ⊥
not_higher edges i j y rises low high lt =
    let within : j < length edges = slice_get_within edges j high.edge high.edge_is in
    let next : ℤ = get_or edges (suc i) y in
    let next_is : slice_get edges (suc i) ≡ Some next = slice_get-get_or edges (suc i) y (omega arith) in
    let above : int_lt high.edge next ≡ false = elim (cases_eq (suc i) j) [
      | inl same ↦
          let one : next ≡ high.edge =
          same_Some next high.edge (sym next_is ∙ (ap (slice_get edges) same ∙ high.edge_is)) in
          subst (λ (e : ℤ). int_lt high.edge e ≡ false) (sym one) (not_self high.edge)
      | inr ne ↦ not_less next high.edge (rises (suc i) j next high.edge next_is high.edge_is (omega arith))
    ] in
    no_height y next high.edge (low.below_next next next_is) above high.reached

pub one_row : (edges : List ℤ) (i j : ℕ) (y : ℤ) → Rises edges → BelongsTo edges i y → BelongsTo edges j y → i ≡ j
one_row edges i j y rises first second = elim (cases_order i j) [
  | inl same ↦ same
  | inr ne ↦ elim ne [
    | inl less ↦ absurd (not_higher edges i j y rises first second less)
    | inr more ↦ absurd (not_higher edges j i y rises second first more)
  ]
]

-- the height is an edge
pub row_found_at : (edges : List ℤ) (y : ℤ) (r row : ℕ) → Rises edges → slice_get edges r ≡ Some y
    → BelongsTo edges row y → r ≡ row
row_found_at edges y r row rises got belongs =
    one_row edges r row y rises
    (record {
      edge = y;
      edge_is = got;
      reached = at_self y;
      below_next = λ next next_is. rises r (suc r) y next got next_is (omega arith);
    })
    belongs

cmp_less : (x y : ℤ) → int_cmp x y ≡ Less → int_lt x y ≡ true
cmp_less x y h = by_test (int_lt x y) (int_lt y x) refl refl
  where
    by_test : (a b : Bool) → int_lt x y ≡ a → int_lt y x ≡ b → int_lt x y ≡ true
    by_test true b p q = p
    by_test false true p q =
        let e : int_cmp x y ≡ Greater = rw (p, q) refl in let k : Greater ≡ Less = sym e ∙ h in absurd cc
    by_test false false p q =
        let e : int_cmp x y ≡ Equal = rw (p, q) refl in let k : Equal ≡ Less = sym e ∙ h in absurd cc

cmp_greater : (x y : ℤ) → int_cmp x y ≡ Greater → int_lt y x ≡ true
cmp_greater x y h = by_test (int_lt x y) (int_lt y x) refl refl
  where
    by_test : (a b : Bool) → int_lt x y ≡ a → int_lt y x ≡ b → int_lt y x ≡ true
    by_test true b p q = let e : int_cmp x y ≡ Less = rw p refl in let k : Less ≡ Greater = sym e ∙ h in absurd cc
    by_test false true p q = q
    by_test false false p q =
        let e : int_cmp x y ≡ Equal = rw (p, q) refl in let k : Equal ≡ Greater = sym e ∙ h in absurd cc

above_not : (edge y : ℤ) → int_lt y edge ≡ true → int_le edge y ≡ true → ⊥
above_not edge y h k = grind (arith, ints)

below_not : (next y : ℤ) → int_lt next y ≡ true → int_lt y next ≡ true → ⊥
below_not next y h k = grind (arith, ints)

-- the height is no edge, and r of the edges are below it
pub row_missed_at : (edges : List ℤ) (y : ℤ) (r row : ℕ) → Rises edges → r ≤ length edges
    → (IsNonDecreasingBy (λ z. ordering_index (int_cmp z y)) edges
    → IsPartitionPoint (λ z. int_cmp z y ≡ Less) (λ z. int_cmp z y ≡ Greater) edges r)
    → BelongsTo edges row y → r - 1 ≡ row
row_missed_at edges y r row rises within parts belongs =
    let both = parts (searchable_from_sorted int_cmp_total (λ z. z) edges y (sorted_from_rises edges rises)) in
    let lt : row < length edges = slice_get_within edges row belongs.edge belongs.edge_is in
    let is : get_or edges row y ≡ belongs.edge = get_or_from_slice_get edges row belongs.edge y belongs.edge_is in
    let upper : row < r = elim (cases_lt row r) [
      | inl less ↦ less
      | inr above ↦ absurd (above_not belongs.edge y
          (subst (λ (e : ℤ). int_lt y e ≡ true) is (cmp_greater (get_or edges row y) y (both.1 row y above lt)))
          belongs.reached)
    ] in
    let lower : r ≤ suc row = elim (cases_lt (suc row) r) [
      | inr le ↦ le
      | inl more ↦ absurd (below_not (get_or edges (suc row) y) y
          (cmp_less (get_or edges (suc row) y) y (both.0 (suc row) y (omega arith) more))
          (belongs.below_next (get_or edges (suc row) y) (slice_get-get_or edges (suc row) y (omega arith))))
    ] in
    omega arith
