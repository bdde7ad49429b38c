-- Wires between pins of their own have distinct end columns: no slot has a column of another, and no even column is
-- odd.
use Rattle.std.proofs.Common.{◌≡◌, ℕ, ◌%◌, List, [], ◌∷◌, sym, ap, arith}
use Rattle.std.specs.List.{AllByRecursion}
use Rattle.sorting.specs.Sorting.{EachPair}
use Rattle.rowed.specs.declared.wire.Wire.{Wire}
use Rattle.channel_route.specs.Crossing.{Apart, EndsApart}
use Rattle.channel_route.specs.ShortWires.{Within, FromApart}
use Rattle.channel_route.specs.PinColumns.{IsPinned, ToApart}
use Rattle.channel_route.proofs.FewCross.{slot_least, slot_most}

-- columns that are one are of one slot
one_slot : (columns s t x y : ℕ) → Within columns s x → Within columns t y → x ≡ y → s ≡ t
one_slot columns s t x y a b e =
    let least = slot_least s columns x x a (omega arith) in
    let most = slot_most s columns x x a (omega arith) in
    let least' = slot_least t columns y x b (omega (arith, e)) in
    let most' = slot_most t columns y x b (omega (arith, e)) in
    omega (arith, least, most, least', most')

not_both : (x y : ℕ) → x % 2 ≡ 0 → y % 2 ≡ 1 → x ≡ y → ⊥
not_both x y even odd e = let same : x % 2 ≡ y % 2 = ap (λ (n : ℕ). n % 2) e in omega (arith, even, odd, same)

-- two wires that share no slot
two_apart : (columns : ℕ) (v w : Wire) → IsPinned columns v → IsPinned columns w → (v.from_slot ≡ w.from_slot → ⊥)
    → (v.to_slot ≡ w.to_slot → ⊥) → Apart v w
two_apart columns v w a b from to = record {
  from_from = λ e. from (one_slot columns _ _ _ _ a.from_within b.from_within e);
  from_to = λ e. not_both _ _ a.from_even b.to_odd e;
  to_from = λ e. not_both _ _ b.from_even a.to_odd (sym e);
  to_to = λ e. to (one_slot columns _ _ _ _ a.to_within b.to_within e);
}

-- a wire and those after it
one_apart : (columns : ℕ) (v : Wire) (ws : List Wire) → IsPinned columns v → AllByRecursion (IsPinned columns) ws
    → AllByRecursion (λ w. v.from_slot ≡ w.from_slot → ⊥) ws → AllByRecursion (λ w. v.to_slot ≡ w.to_slot → ⊥) ws
    → AllByRecursion (Apart v) ws
one_apart columns v [] a all from to = tt
one_apart columns v (w ∷ ws) a all from to =
    (two_apart columns v w a all.0 from.0 to.0, one_apart columns v ws a all.1 from.1 to.1)

pairs_apart : (columns : ℕ) (ws : List Wire) → AllByRecursion (IsPinned columns) ws → FromApart ws → ToApart ws
    → EachPair Apart ws
pairs_apart columns [] all from to = tt
pairs_apart columns (w ∷ ws) all from to =
    (one_apart columns w ws all.0 all.1 from.0 to.0, pairs_apart columns ws all.1 from.1 to.1)

own_apart : (columns : ℕ) (ws : List Wire) → AllByRecursion (IsPinned columns) ws
    → AllByRecursion (λ w. w.from_column ≡ w.to_column → ⊥) ws
own_apart columns [] all = tt
own_apart columns (w ∷ ws) all =
    (λ e. not_both _ _ all.0.from_even all.0.to_odd e, own_apart columns ws all.1)

pub ends_apart : (columns : ℕ) (ws : List Wire) → AllByRecursion (IsPinned columns) ws → FromApart ws → ToApart ws
    → EndsApart ws
ends_apart columns ws all from to =
    record { own = own_apart columns ws all; others = pairs_apart columns ws all from to }
