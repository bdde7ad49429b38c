-- The names that the netlist of a design keeps are all different: those of wires inside calls begin with a number sign
-- and go on with the wire's number, and no name of a text holds that sign.
use Rattle.std.proofs.Common.{◌≡◌, ℕ, zero, suc, ◌+◌, ◌<◌, ◌≤◌, ◌^◌, false, List, [], ◌∷◌, length, drop, refl, sym, ap}
use Rattle.std.proofs.Common.{subst, arith}
use Rattle.std.specs.Fmt.{decimal}
use Rattle.std.specs.List.{AllByRecursion, IsDistinct}
use Rattle.std.specs.Str.{bytes_eq}
use Rattle.std.proofs.lemmas.Fmt.{decimal_injective}
use Rattle.blif_flat.specs.Expansion.{Wire, kept_name, kept_names}
use Rattle.blif_flat.proofs.Members.{AreApart, all_weaker, other_bytes}
use Rattle.blif_flat.proofs.CleanNames.{IsClean}

-- a wire of the first model has a name without number signs
abbrev pub IsKeepable : Wire → Type 0
IsKeepable w = w.call ≡ 0 → IsClean w.name

pub kept_count : (n : ℕ) (ws : List Wire) → length (kept_names n ws) ≡ length ws
kept_count n [] = refl
kept_count n (w ∷ ws) = ap suc (kept_count (n + 1) ws)

abbrev kept : ℕ → ℕ → List ℕ → List ℕ
kept call n name = elim call [ zero ↦ name | suc k ↦ 35 ∷ decimal n ]

kept_differ : (c d n m : ℕ) (a b : List ℕ) → n < m → m < 2 ^ 64 → (c ≡ 0 → IsClean a) → (d ≡ 0 → IsClean b)
    → (c ≡ d → a ≡ b → ⊥) → kept c n a ≡ kept d m b → ⊥
kept_differ zero zero n m a b lt small f g apart e = apart refl e
kept_differ zero (suc d) n m a b lt small f g apart e = (subst IsClean e (f refl)).0 refl
kept_differ (suc c) zero n m a b lt small f g apart e = (subst IsClean (sym e) (g refl)).0 refl
kept_differ (suc c) (suc d) n m a b lt small f g apart e =
    let same : n ≡ m = decimal_injective n m (omega (arith, lt, small)) small (ap (drop 1) e) in
    omega (arith, lt, same)

one_apart : (n m : ℕ) (w : Wire) (ws : List Wire) → n < m → m + length ws ≤ 2 ^ 64 → IsKeepable w
    → AllByRecursion IsKeepable ws → AllByRecursion (λ u. w ≡ u → ⊥) ws
    → AllByRecursion (λ name. kept_name n w ≡ name → ⊥) (kept_names m ws)
one_apart n m w [] lt small k ks apart = tt
one_apart n m w (u ∷ ws) lt small k ks apart = (
  kept_differ w.call u.call n m w.name u.name lt (omega (arith, small)) k ks.0
      (λ c e. apart.0 (λ i. record { call = c i; name = e i })),
  one_apart n (m + 1) w ws (omega (arith, lt)) (omega (arith, small)) k ks.1 apart.1,
)

pub kept_apart : (n : ℕ) (ws : List Wire) → n + length ws ≤ 2 ^ 64 → AllByRecursion IsKeepable ws → AreApart ws
    → AreApart (kept_names n ws)
kept_apart n [] small ks apart = tt
kept_apart n (w ∷ ws) small ks apart = (
  one_apart n (n + 1) w ws (omega arith) (omega (arith, small)) ks.0 ks.1 apart.0,
  kept_apart (n + 1) ws (omega (arith, small)) ks.1 apart.1,
)

pub distinct : (names : List (List ℕ)) → AreApart names → IsDistinct bytes_eq names
unfolding IsDistinct
distinct [] a = tt
distinct (name ∷ names) a = (
  all_weaker (λ other. name ≡ other → ⊥) (λ other. bytes_eq name other ≡ false) (other_bytes name) names a.0,
  distinct names a.1,
)
