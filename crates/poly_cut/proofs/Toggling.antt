-- Toggling by the place that a binary search finds.
use Rattle.std.proofs.Common.{◌≡◌, ◌⊎◌, ℕ, zero, suc, ◌+◌, ◌/◌, ◌<◌, ◌≤◌, ℤ, ◌<ℤ◌, ◌≤ℤ◌, List, [], ◌∷◌, ◌++◌, false}
use Rattle.std.proofs.Common.{Some, length, get_or, take, drop, refl, sym, ap, subst, ◌∙◌, arith, inl, inr}
use Rattle.std.specs.Prelude.{slice_get}
use Rattle.std.proofs.lemmas.Option.{same_Some, slice_get-get_or, slice_get_within, get_or_from_slice_get}
use Rattle.std.specs.declared.cmp.Ordering.{Ordering}
use Rattle.std.specs.declared.cmp.Ordering.TheVariants.{Less, Equal, Greater}
use Rattle.std.specs.Ordering.{int_cmp, is_lt, ordering_index}
use Rattle.std.specs.List.{HoldsAt}
use Rattle.std.specs.List.Sorted.{IsNonDecreasingBy, IsPartitionPoint, IsSorted}
use Rattle.std.proofs.lemmas.Int.{ints}
use Rattle.std.proofs.lemmas.Cmp.{int_cmp_total}
use Rattle.std.proofs.lemmas.List.Sorted.{searchable_from_sorted}
use Rattle.poly_cut.specs.Cuts.{toggled}
use Rattle.poly_cut.specs.Code.Sweeping.{Above, Rising}
use Rattle.poly_cut.proofs.Parity.{rising_of}
use Rattle.poly_cut.proofs.Spans.{got_less}

pub cmp_less : (x y : ℤ) → x <ℤ y → int_cmp x y ≡ Less
cmp_less x y h = grind (arith, ints)

pub cmp_greater : (x y : ℤ) → y <ℤ x → int_cmp x y ≡ Greater
cmp_greater x y h = grind (arith, ints)

pub cmp_self : (x : ℤ) → int_cmp x x ≡ Equal
cmp_self x = grind (arith, ints)

cmp_equal : (x y : ℤ) → int_cmp x y ≡ Equal → x ≡ y
cmp_equal x y h = grind (arith, ints)

pub less_cmp : (x y : ℤ) → int_cmp x y ≡ Less → x <ℤ y
less_cmp x y h = grind (arith, ints)

pub greater_cmp : (x y : ℤ) → int_cmp x y ≡ Greater → y <ℤ x
greater_cmp x y h = grind (arith, ints)

not_less : (x y : ℤ) → x <ℤ y → is_lt (int_cmp y x) ≡ false
not_less x y h = ap is_lt (cmp_greater y x h)

rising_sorted : (ws : List ℤ) → Rising ws → IsSorted int_cmp ws
rising_sorted [] up k d lo hi = absurd (omega arith)
rising_sorted (w ∷ []) up k d lo hi = absurd (omega arith)
rising_sorted (w ∷ v ∷ ws) up zero d lo hi = not_less w v up.0
rising_sorted (w ∷ v ∷ ws) up (suc k) d lo hi =
    let n : suc k + 1 ≡ suc (k + 1) = omega arith in
    rw n (rising_sorted (v ∷ ws) up.1 k d (omega arith) (omega arith))

pub searchable : (ws : List ℤ) (x : ℤ) → Rising ws → IsNonDecreasingBy (λ y. ordering_index (int_cmp y x)) ws
searchable ws x up = searchable_from_sorted int_cmp_total (λ y. y) ws x (rising_sorted ws up)

unfoldable pub by_order : Ordering → ℤ → ℤ → List ℤ → List ℤ
by_order Less x w ws = x ∷ w ∷ ws
by_order Equal x w ws = ws
by_order Greater x w ws = w ∷ toggled x ws

pub toggled_so : (x w : ℤ) (ws : List ℤ) (o : Ordering) → int_cmp x w ≡ o → toggled x (w ∷ ws) ≡ by_order o x w ws
unfolding by_order
toggled_so x w ws o e = turn (int_cmp x w) ∙ ap (λ (k : Ordering). by_order k x w ws) e
  where
    turn : (k : Ordering)
        → (elim k as (λ (t : Ordering). List ℤ) [
          | Less ↦ x ∷ w ∷ ws
          | Equal ↦ ws
          | Greater ↦ w ∷ toggled x ws
        ]) ≡ by_order k x w ws
    turn Less = refl
    turn Equal = refl
    turn Greater = refl

above_at : (a : ℤ) (ws : List ℤ) (k : ℕ) (d : ℤ) → Above a ws → k < length ws → a <ℤ get_or ws k d
above_at a [] k d h lt = absurd (omega arith)
above_at a (w ∷ ws) zero d h lt = h.0
above_at a (w ∷ ws) (suc k) d h lt = let n : w <ℤ get_or ws k d = above_at w ws k d h.1 (omega arith) in
    omega (arith, ints, h.0, n)

-- a wall that stands at place k goes
pub toggled_away : (x : ℤ) (ws : List ℤ) (k : ℕ) → Rising ws → k < length ws → HoldsAt (λ y. int_cmp y x ≡ Equal) ws k
    → toggled x ws ≡ take k ws ++ drop (suc k) ws
unfolding by_order
toggled_away x [] k up lt here = absurd (omega arith)
toggled_away x (w ∷ ws) zero up lt here = toggled_so x w ws Equal (rw (cmp_equal w x (here x)) (cmp_self x))
toggled_away x (w ∷ ws) (suc k) up lt here =
    let m : w <ℤ get_or ws k x = above_at w ws k x up (omega arith) in
    let e : get_or ws k x ≡ x = cmp_equal (get_or ws k x) x (here x) in
    toggled_so x w ws Greater (cmp_greater x w (subst (λ (y : ℤ). w <ℤ y) e m))
    ∙ ap (λ (l : List ℤ). w ∷ l) (toggled_away x ws k (rising_of w ws up) (omega arith) here)

-- a wall that does not stand goes to place k
pub toggled_in : (x : ℤ) (ws : List ℤ) (k : ℕ) → Rising ws → k ≤ length ws
    → IsPartitionPoint (λ y. int_cmp y x ≡ Less) (λ y. int_cmp y x ≡ Greater) ws k
    → toggled x ws ≡ take k ws ++ x ∷ drop k ws
unfolding by_order
toggled_in x [] zero up le parts = refl
toggled_in x [] (suc k) up le parts = absurd (omega arith)
toggled_in x (w ∷ ws) zero up le parts = toggled_so x w ws Less
    (cmp_less x w (greater_cmp w x (parts.1 0 x (omega arith) (omega arith))))
toggled_in x (w ∷ ws) (suc k) up le parts =
    toggled_so x w ws Greater (cmp_greater x w (less_cmp w x (parts.0 0 x (omega arith) (omega arith))))
    ∙ ap (λ (l : List ℤ). w ∷ l) (toggled_in x ws k (rising_of w ws up) (omega arith) (
      λ i d lo hi. parts.0 (suc i) d (omega arith) (omega arith),
      λ i d lo hi. parts.1 (suc i) d (omega arith)
          (omega arith),
    ))

-- ---- the pairs of walls left of a place, and those from it on

module _ (x : ℤ) (ws : List ℤ) (k : ℕ) (up : Rising ws) where
  found_there : k < length ws → HoldsAt (λ y. int_cmp y x ≡ Equal) ws k → slice_get ws k ≡ Some x
  found_there lt here = slice_get-get_or ws k x lt ∙ ap (λ (v : ℤ). Some v) (cmp_equal (get_or ws k x) x (here x))

  pub before_found : k < length ws → HoldsAt (λ y. int_cmp y x ≡ Equal) ws k → (i : ℕ) (w : ℤ) → i < k / 2
      → slice_get ws (suc (i + i)) ≡ Some w → w <ℤ x
  before_found lt here i w h e = got_less ws (suc (i + i)) k w x up (omega arith) e (found_there lt here)

  pub from_found : k < length ws → HoldsAt (λ y. int_cmp y x ≡ Equal) ws k → (i : ℕ) (w : ℤ) → k / 2 ≤ i
      → slice_get ws (suc (i + i)) ≡ Some w → x ≤ℤ w
  from_found lt here i w h e = elim (less_or k (suc (i + i)) (omega arith)) [
    | inl less ↦
        (let m : x <ℤ w = got_less ws k (suc (i + i)) x w up less (found_there lt here) e in omega (arith, ints, m))
    | inr same ↦
        (let m : x ≡ w = same_Some x w (sym (found_there lt here) ∙ ap (λ (n : ℕ). slice_get ws n) same ∙ e) in
        omega (arith, ints, m))
  ]
    where
      less_or : (a b : ℕ) → a ≤ b → (a < b) ⊎ (a ≡ b)
      less_or zero zero le = inr refl
      less_or zero (suc b) le = inl (omega arith)
      less_or (suc a) zero le = absurd (omega arith)
      less_or (suc a) (suc b) le = elim (less_or a b (omega arith)) [
        | inl lt ↦ inl (omega (arith, lt))
        | inr e ↦ inr (ap suc e)
      ]

  pub before_place : IsPartitionPoint (λ y. int_cmp y x ≡ Less) (λ y. int_cmp y x ≡ Greater) ws k → (i : ℕ) (w : ℤ)
      → i < k / 2 → slice_get ws (suc (i + i)) ≡ Some w → w <ℤ x
  before_place parts i w h e =
      let lt : suc (i + i) < length ws = slice_get_within ws (suc (i + i)) w e in
      subst (λ (v : ℤ). v <ℤ x) (get_or_from_slice_get ws (suc (i + i)) w x e)
      (less_cmp (get_or ws (suc (i + i)) x) x (parts.0 (suc (i + i)) x (omega (arith, lt)) (omega (arith, lt))))

  pub from_place : IsPartitionPoint (λ y. int_cmp y x ≡ Less) (λ y. int_cmp y x ≡ Greater) ws k → (i : ℕ) (w : ℤ)
      → k / 2 ≤ i → slice_get ws (suc (i + i)) ≡ Some w → x ≤ℤ w
  from_place parts i w h e =
      let lt : suc (i + i) < length ws = slice_get_within ws (suc (i + i)) w e in
      let m : x <ℤ w = subst (λ (v : ℤ). x <ℤ v) (get_or_from_slice_get ws (suc (i + i)) w x e)
      (greater_cmp (get_or ws (suc (i + i)) x) x (parts.1 (suc (i + i)) x (omega (arith, lt)) (omega (arith, lt)))) in
      omega (arith, ints, m)
