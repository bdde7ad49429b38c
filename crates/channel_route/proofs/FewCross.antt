-- Wires that move few slots cross few at a time.
use Rattle.std.proofs.Common.{◌≡◌, ℕ, zero, suc, ◌+◌, ◌-◌, ◌*◌, ◌/◌, ◌<◌, ◌≤◌, Bool, true, false, leb}
use Rattle.std.proofs.Common.{List, [], ◌∷◌, length, refl, inl, inr, arith}
use Rattle.std.specs.List.{filter, AllByRecursion}
use Rattle.std.proofs.lemmas.Bool.{cases_lt, leb-true, and_parts}
use Rattle.std.proofs.lemmas.Nat.{div_below}
use Rattle.std.proofs.Math.Nat.{le-div_iff_mul-le}
use Rattle.rowed.specs.declared.wire.Wire.{Wire}
use Rattle.sorting.specs.Sorting.{EachPair}
use Rattle.sorting.proofs.SortingLaws.{distinct_fit}
use Rattle.channel_route.specs.Crossing.{low, high, crosses, crossing, IsOver}
use Rattle.channel_route.specs.ShortWires.{Within, IsShortWire, FromApart}

-- what a filter keeps
kept_all : {X : Type 0} (p : X → Bool) (P Q : X → Type 0) → ((x : X) → p x ≡ true → P x → Q x) → (xs : List X)
    → AllByRecursion P xs → AllByRecursion Q (filter p xs)
kept_all p P Q f [] all = tt
kept_all {X} p P Q f (x ∷ xs) all = go (p x) refl (kept_all p P Q f xs all.1)
  where
    go : (b : Bool) → p x ≡ b → AllByRecursion Q (filter p xs) → AllByRecursion Q (filter p (x ∷ xs))
    go true q r = rw q (f x q all.0, r)
    go false q r = rw q r

kept_pairs : {X : Type 0} (p : X → Bool) (R : X → X → Type 0) (xs : List X) → EachPair R xs → EachPair R (filter p xs)
kept_pairs p R [] all = tt
kept_pairs {X} p R (x ∷ xs) all = go (p x) refl (kept_pairs p R xs all.1)
  where
    go : (b : Bool) → p x ≡ b → EachPair R (filter p xs) → EachPair R (filter p (x ∷ xs))
    go true q r = rw q (kept_all p (R x) (R x) (λ y _ k. k) xs all.0, r)
    go false q r = rw q r

positive : (n c x : ℕ) → x < n * c → 0 < c
positive n zero x lt = absurd (omega (arith, lt))
positive n (suc c) x lt = omega arith

-- the slot of a column is not above that of a later one, nor below that of an earlier one
pub slot_least : (slot columns column x : ℕ) → Within columns slot column → column ≤ x → slot ≤ x / columns
slot_least slot columns column x w le =
    (le-div_iff_mul-le {k = columns} {x = slot} {y = x} (positive (suc slot) columns column w.up_to)).1
    (omega (arith, w.from_on, le))

pub slot_most : (slot columns column x : ℕ) → Within columns slot column → x ≤ column → x / columns ≤ slot
slot_most slot columns column x w le =
    let some = positive (suc slot) columns column w.up_to in
    let h : x / columns < suc slot = div_below x columns (suc slot) some (omega (arith, w.up_to, le)) in
    omega arith

-- a wire that crosses a column begins near its slot
begins_near : (reach columns x : ℕ) (w : Wire) → crosses x w ≡ true → IsShortWire reach columns w
    → (x / columns ≤ w.from_slot + (reach - 1)) × (w.from_slot ≤ x / columns + (reach - 1))
begins_near reach columns x w c s =
    let both = and_parts (leb (low w) x) (leb x (high w)) c in
    let a : low w ≤ x = leb-true (low w) x both.0 in
    let b : x ≤ high w = leb-true x (high w) both.1 in
    elim (cases_lt w.from_column w.to_column) [
      | inl up ↦
          let l = slot_least w.from_slot columns w.from_column x s.from_within (omega arith) in
          let m = slot_most w.to_slot columns w.to_column x s.to_within (omega arith) in
          (omega (arith, l, m, s.short), omega (arith, l))
      | inr down ↦
          let l = slot_least w.to_slot columns w.to_column x s.to_within (omega arith) in
          let m = slot_most w.from_slot columns w.from_column x s.from_within (omega arith) in
          (omega (arith, m), omega (arith, l, m, s.short))
    ]

-- where every wire moves at most reach - 1 slots, no column is crossed by more than 2 * reach - 1 wires
pub few_cross : (reach columns : ℕ) (ws : List Wire) → 1 ≤ reach → AllByRecursion (IsShortWire reach columns) ws
    → FromApart ws → (x : ℕ) → length (crossing x ws) ≤ 2 * reach - 1
few_cross reach columns ws some short apart x =
    let near = kept_all (crosses x) (IsShortWire reach columns) (λ w. (x / columns - (reach - 1)) ≤ w.from_slot)
    (λ w c s. omega (arith, (begins_near reach columns x w c s).0)) ws short in
    let near' = kept_all (crosses x) (IsShortWire reach columns) (λ w. w.from_slot < x / columns + reach)
    (λ w c s. omega (arith, (begins_near reach columns x w c s).1)) ws short in
    let apart' = kept_pairs (crosses x) (λ v w. v.from_slot ≡ w.from_slot → ⊥) ws apart in
    omega (
      arith,
      distinct_fit (λ w. w.from_slot) (x / columns - (reach - 1)) (x / columns + reach) (crossing x ws)
          apart' near near' (omega arith),
    )

-- so fewer wires than the capacity cross each column, where the reach is at most half of it, and none is over it
pub below_capacity : (reach columns capacity : ℕ) (ws : List Wire) → 1 ≤ reach → reach ≤ capacity / 2
    → AllByRecursion (IsShortWire reach columns) ws → FromApart ws → (x : ℕ) → length (crossing x ws) < capacity
below_capacity reach columns capacity ws some half short apart x =
    omega (arith, half, few_cross reach columns ws some short apart x)

pub never_over : (reach columns capacity : ℕ) (ws : List Wire) → 1 ≤ reach → reach ≤ capacity / 2
    → AllByRecursion (IsShortWire reach columns) ws → FromApart ws → (x : ℕ) → IsOver ws capacity x → ⊥
never_over reach columns capacity ws some half short apart x over =
    absurd (omega (arith, over.over, below_capacity reach columns capacity ws some half short apart x))
