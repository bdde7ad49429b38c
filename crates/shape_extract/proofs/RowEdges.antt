-- Lower edges, read, sorted and each kept once, are the rows.
use Rattle.std.proofs.Common.{◌≡◌, ℕ, zero, suc, ◌+◌, ◌-◌, ◌<◌, ◌≤◌, ◌⊎◌, Bool, true, false, List, [], ◌∷◌, ◌++◌}
use Rattle.std.proofs.Common.{length, get_or, Some, ℤ, refl, sym, ap, ◌∙◌, arith, inl, inr}
use Rattle.std.specs.Prelude.{slice_get, int_lt, IsSorted, IsPermutation}
use Rattle.std.specs.Ordering.{int_cmp, is_lt, ordering_index}
use Rattle.std.specs.declared.cmp.Ordering.TheVariants.{Less, Equal, Greater}
use Rattle.std.specs.List.{HoldsAt}
use Rattle.std.specs.List.Sorted.{IsNonDecreasingBy, IsPartitionPoint}
use Rattle.std.proofs.lemmas.Bool.{cases_eq, cases_lt, both_ways}
use Rattle.std.proofs.lemmas.Int.{ints}
use Rattle.std.proofs.lemmas.Cmp.{int_cmp_total, int_ranked}
use Rattle.std.proofs.lemmas.List.Sorted.{searchable_from_sorted, IsPermutation-sym}
use Rattle.std.proofs.lemmas.Option.{same_Some, slice_get_within, slice_get-get_or, get_or_from_slice_get}
use Rattle.geom.specs.declared.shapes.Shape.{Shape}
use Rattle.layout_rules.specs.Layers.{is_frame}
use Rattle.layout_rules.specs.Rows.{AreRows}
use Rattle.shape_extract.specs.Searches.{SaysWhether}
use Rattle.shape_extract.proofs.Moved.{moved, far}
use Rattle.shape_extract.specs.Code.Edges.{IsEdge, IsAmong, AreEdges, Rises, AreDistinct, EndsWith}

-- ---- a list with one more item

pub push_old : {X : Type 0} (xs : List X) (y x : X) (k : ℕ) → slice_get xs k ≡ Some x
    → slice_get (xs ++ y ∷ []) k ≡ Some x
push_old [] y x k e = absurd cc
push_old (z ∷ xs) y x zero e = e
push_old (z ∷ xs) y x (suc k) e = push_old xs y x k e

pub push_new : {X : Type 0} (xs : List X) (y : X) → slice_get (xs ++ y ∷ []) (length xs) ≡ Some y
push_new [] y = refl
push_new (z ∷ xs) y = push_new xs y

pub push_cases : {X : Type 0} (xs : List X) (y x : X) (k : ℕ) → slice_get (xs ++ y ∷ []) k ≡ Some x
    → (slice_get xs k ≡ Some x) ⊎ ((k ≡ length xs) × (y ≡ x))
push_cases [] y x zero e = inr (refl, same_Some y x e)
push_cases [] y x (suc k) e = absurd cc
push_cases (z ∷ xs) y x zero e = inl e
push_cases (z ∷ xs) y x (suc k) e = elim (push_cases xs y x k e) [
  | inl old ↦ inl old
  | inr new ↦ inr (ap suc new.0, new.1)
]

-- ---- the edges of the first shapes

pub record EdgesBelow (n : ℕ) (shapes : List Shape) (edges : List ℤ) : Type 0 where
  pub each : (f : ℕ) (frame : Shape) → f < n → slice_get shapes f ≡ Some frame → is_frame frame ≡ true
      → IsAmong edges frame.rect.y0
  pub only : (y : ℤ) → IsAmong edges y → IsEdge shapes y

module _ (shapes : List Shape) (n : ℕ) (edges : List ℤ) (here : Shape) (are : EdgesBelow n shapes edges)
    (got : slice_get shapes n ≡ Some here) where
  pub edges_more : is_frame here ≡ true → EdgesBelow (n + 1) shapes (edges ++ here.rect.y0 ∷ [])
  edges_more frame_so = record {
    each = λ f frame lt at so. elim (cases_eq f n) [
      | inl e ↦
          let same : here ≡ frame = same_Some here frame (sym got ∙ (ap (slice_get shapes) (sym e) ∙ at)) in
          (length edges, push_new edges here.rect.y0 ∙ ap (λ (s : Shape). Some s.rect.y0) same)
      | inr ne ↦ let k = are.each f frame (omega arith) at so in
          (k.0, push_old edges here.rect.y0 frame.rect.y0 k.0 k.1)
    ];
    only = λ y among. elim (push_cases edges here.rect.y0 y among.0 among.1) [
      | inl old ↦ are.only y (among.0, old)
      | inr new ↦ record { number = n; frame = here; frame_is = got; frame_so = frame_so; edge_is = new.1 }
    ];
  }

  pub edges_same : is_frame here ≡ false → EdgesBelow (n + 1) shapes edges
  edges_same other = record {
    each = λ f frame lt at so. elim (cases_eq f n) [
      | inl e ↦ absurd (both_ways (is_frame here) other
          (ap is_frame (same_Some here frame (sym got ∙ (ap (slice_get shapes) (sym e) ∙ at))) ∙ so))
      | inr ne ↦ are.each f frame (omega arith) at so
    ];
    only = are.only;
  }

pub edges_all : (shapes : List Shape) (n : ℕ) (edges : List ℤ) → length shapes ≤ n
    → EdgesBelow n shapes edges → AreEdges shapes edges
edges_all shapes n edges all are = record {
  each = λ f frame at so. (let lt : f < length shapes =
      slice_get_within shapes f frame at in are.each f frame (omega arith) at so);
  only = are.only;
}

-- ---- each number once

lt_is : (x y : ℤ) → is_lt (int_cmp x y) ≡ int_lt x y
lt_is x y = grind (arith, ints)

-- a sorted list does not fall
not_falling : (xs : List ℤ) → IsSorted int_cmp xs → (i j : ℕ) (y z : ℤ) → slice_get xs i ≡ Some y
    → slice_get xs j ≡ Some z → i ≤ j → int_lt z y ≡ false
not_falling xs sorted i j y z p q le =
    sym (lt_is z y) ∙ far int_cmp_total xs sorted i j y z le p q

below_from : (x y : ℤ) → int_lt y x ≡ false → (x ≡ y → ⊥) → int_lt x y ≡ true
below_from x y h ne = grind (arith, ints)

below_through : (x y z : ℤ) → int_lt x y ≡ true → int_lt z y ≡ false → int_lt x z ≡ true
below_through x y z h k = grind (arith, ints)

pub record DistinctBelow (n : ℕ) (sorted numbers : List ℤ) : Type 0 where
  pub rising : Rises numbers
  pub each : (k : ℕ) (y : ℤ) → k < n → slice_get sorted k ≡ Some y → IsAmong numbers y
  pub only : (r : ℕ) (y : ℤ) → slice_get numbers r ≡ Some y → (k : ℕ) × ((k < n) × (slice_get sorted k ≡ Some y))

module _ (sorted : List ℤ) (up : IsSorted int_cmp sorted) (n : ℕ) (numbers : List ℤ) (here : ℤ)
    (are : DistinctBelow n sorted numbers) (got : slice_get sorted n ≡ Some here) where
  -- every number that is there is below the next one, unless that is the last
  under : (EndsWith numbers here → ⊥) → (r : ℕ) (y : ℤ) → slice_get numbers r ≡ Some y → int_lt y here ≡ true
  under not_last r y p =
      let k = are.only r y p in
      let not_above : int_lt here y ≡ false = not_falling sorted up k.0 n y here k.1.1 got (omega (arith, k.1.0)) in
      let lt : r < length numbers = slice_get_within numbers r y p in
      elim (cases_eq (suc r) (length numbers)) [
        | inl last ↦ below_from y here not_above
            (λ e. not_last (record { place = r; last = last; number_is = p ∙ ap Some e }))
        | inr more ↦
            let after : suc r < length numbers = omega arith in
            let next : slice_get numbers (suc r) ≡ Some (get_or numbers (suc r) y) =
            slice_get-get_or numbers (suc r) y after in
            let l = are.only (suc r) (get_or numbers (suc r) y) next in
            let above : int_lt here (get_or numbers (suc r) y) ≡ false = not_falling sorted up l.0 n
            (get_or numbers (suc r) y) here l.1.1 got (omega (arith, l.1.0)) in
            below_through y (get_or numbers (suc r) y) here
            (are.rising r (suc r) y (get_or numbers (suc r) y) p next (omega arith)) above
      ]

  pub distinct_more : (EndsWith numbers here → ⊥) → DistinctBelow (n + 1) sorted (numbers ++ here ∷ [])
  distinct_more not_last = record {
    rising = λ i j y z p q lt. elim (push_cases numbers here z j q) [
      | inl old ↦ elim (push_cases numbers here y i p) [
        | inl first ↦ are.rising i j y z first old lt
        | inr last ↦ absurd (let w : j < length numbers = slice_get_within numbers j z old in omega (arith, last.0))
      ]
      | inr new ↦ elim (push_cases numbers here y i p) [
        | inl first ↦ rw new.1 at (under not_last i y first)
        | inr last ↦ absurd (omega (arith, last.0, new.0))
      ]
    ];
    each = λ k y lt at. elim (cases_eq k n) [
      | inl e ↦ (length numbers, push_new numbers here ∙ (sym got ∙ (ap (slice_get sorted) (sym e) ∙ at)))
      | inr ne ↦ let r = are.each k y (omega arith) at in (r.0, push_old numbers here y r.0 r.1)
    ];
    only = λ r y p. elim (push_cases numbers here y r p) [
      | inl old ↦ let k = are.only r y old in (k.0, (omega (arith, k.1.0), k.1.1))
      | inr new ↦ (n, (omega arith, got ∙ ap Some new.1))
    ];
  }

  pub distinct_same : EndsWith numbers here → DistinctBelow (n + 1) sorted numbers
  distinct_same last = record {
    rising = are.rising;
    each = λ k y lt at. elim (cases_eq k n) [
      | inl e ↦ (last.place, last.number_is ∙ (sym got ∙ (ap (slice_get sorted) (sym e) ∙ at)))
      | inr ne ↦ are.each k y (omega arith) at
    ];
    only = λ r y p. (let k = are.only r y p in (k.0, (omega (arith, k.1.0), k.1.1)));
  }

pub distinct_all : (sorted : List ℤ) (n : ℕ) (numbers : List ℤ) → length sorted ≤ n → DistinctBelow n sorted numbers
    → AreDistinct sorted numbers
distinct_all sorted n numbers all are = record {
  rising = are.rising;
  each = λ y among. (let lt : among.0 < length sorted =
      slice_get_within sorted among.0 y among.1 in are.each among.0 y (omega arith) among.1);
  only = λ y among. (let k = are.only among.0 y among.1 in (k.0, k.1.1));
}

-- ---- the rows

pub rows_from : (shapes : List Shape) (edges sorted distinct : List ℤ) → AreEdges shapes edges
    → IsPermutation edges sorted → AreDistinct sorted distinct → AreRows shapes distinct
rows_from shapes edges sorted distinct are same once = record {
  rising = once.rising;
  each = λ f frame at so. once.each frame.rect.y0 (moved edges sorted same frame.rect.y0 (are.each f frame at so));
  only = λ r y p. (
      let here = once.only y (r, p) in
      let edge = are.only y (moved sorted edges (IsPermutation-sym edges sorted same) y here) in
      (edge.number, edge.frame, edge.frame_is, edge.frame_so, edge.edge_is)
      );
}

-- ---- the last number

pub ends_said : (numbers : List ℤ) (y : ℤ) (answer : Bool) (d : ℤ) → 0 < length numbers
    → SaysWhether answer (get_or numbers (length numbers - 1) d ≡ y) → SaysWhether answer (EndsWith numbers y)
ends_said numbers y true d some says =
    let lt : length numbers - 1 < length numbers = omega arith in
    record {
      place = length numbers - 1;
      last = omega arith;
      number_is = slice_get-get_or numbers (length numbers - 1) d lt ∙ ap Some says;
    }
ends_said numbers y false d some says = λ ends.
    let e : ends.place ≡ length numbers - 1 = omega (arith, ends.last) in
    says (ap (λ (k : ℕ). get_or numbers k d) (sym e) ∙ get_or_from_slice_get numbers ends.place y d ends.number_is)

-- ---- the place of an edge among rising edges

rises_at : (edges : List ℤ) → Rises edges → (i j : ℕ) (d : ℤ) → i < j → j < length edges
    → int_lt (get_or edges i d) (get_or edges j d) ≡ true
rises_at edges rises i j d lt within = rises i j (get_or edges i d) (get_or edges j d)
    (slice_get-get_or edges i d (omega arith)) (slice_get-get_or edges j d within) lt

less_is : (x y : ℤ) → int_lt x y ≡ true → is_lt (int_cmp y x) ≡ false
less_is x y h = grind (arith, ints)

-- rising edges are sorted
pub sorted_from_rises : (edges : List ℤ) → Rises edges → IsSorted int_cmp edges
sorted_from_rises edges rises k d _ lt = less_is (get_or edges k d) (get_or edges (k + 1) d)
    (rises_at edges rises k (k + 1) d (omega arith) lt)

cmp_self : (y : ℤ) → int_cmp y y ≡ Equal
cmp_self y = let no : int_lt y y ≡ false = grind (arith, ints) in rw no refl

equal_same : (x y : ℤ) → int_cmp x y ≡ Equal → x ≡ y
equal_same x y h = int_ranked x y Equal (sym h)

pub row_found : (edges : List ℤ) (y : ℤ) (r : ℕ) → r < length edges → HoldsAt (λ z. int_cmp z y ≡ Equal) edges r
    → slice_get edges r ≡ Some y
row_found edges y r lt at = slice_get-get_or edges r y lt ∙ ap Some (equal_same (get_or edges r y) y (at y))

pub row_missed : (edges : List ℤ) (y : ℤ) (r : ℕ) → Rises edges → IsAmong edges y
    → (IsNonDecreasingBy (λ z. ordering_index (int_cmp z y)) edges
    → IsPartitionPoint (λ z. int_cmp z y ≡ Less) (λ z. int_cmp z y ≡ Greater) edges r) → ⊥
row_missed edges y r rises among parts =
    let both = parts (searchable_from_sorted int_cmp_total (λ z. z) edges y (sorted_from_rises edges rises)) in
    let lt : among.0 < length edges = slice_get_within edges among.0 y among.1 in
    let is : get_or edges among.0 y ≡ y = get_or_from_slice_get edges among.0 y y among.1 in
    elim (cases_lt among.0 r) [
      | inl below ↦ (let e : Less ≡ Equal = sym (both.0 among.0 y (omega arith) below)
          ∙ (ap (λ (z : ℤ). int_cmp z y) is ∙ cmp_self y) in absurd cc)
      | inr above ↦ (let e : Greater ≡ Equal = sym (both.1 among.0 y above lt)
          ∙ (ap (λ (z : ℤ). int_cmp z y) is ∙ cmp_self y) in absurd cc)
    ]
