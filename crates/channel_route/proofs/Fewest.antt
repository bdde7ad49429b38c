-- Wires that cross one column want as many tracks.
use Rattle.std.proofs.Common.{◌≡◌, ℕ, suc, ◌<◌, ◌≤◌, Bool, true, false, cond, List, [], ◌∷◌, length, get_or, refl, ap}
use Rattle.std.proofs.Common.{arith}
use Rattle.std.specs.List.{AllByRecursion}
use Rattle.rowed.specs.declared.wire.Wire.{Wire}
use Rattle.sorting.specs.Sorting.{EachPair}
use Rattle.sorting.proofs.SortingLaws.{distinct_fit}
use Rattle.channel_route.specs.Crossing.{crosses, crossing, EndsApart}
use Rattle.channel_route.specs.Tracks.{tracks_used, column_of, AreApart}
use Rattle.channel_route.proofs.TracksApart.{route_is}

-- the tracks of the wires that cross a column
abbrev tracks_over : ℕ → List Wire → List ℕ → List ℕ
tracks_over x [] ts = []
tracks_over x (w ∷ ws) [] = []
tracks_over x (w ∷ ws) (t ∷ ts) = cond (crosses x w) (t ∷ tracks_over x ws ts) (tracks_over x ws ts)

one_over_each : (x : ℕ) (ws : List Wire) (ts : List ℕ) → length ts ≡ length ws
    → length (tracks_over x ws ts) ≡ length (crossing x ws)
one_over_each x [] ts len = refl
one_over_each x (w ∷ ws) [] len = absurd (omega (arith, len))
one_over_each x (w ∷ ws) (t ∷ ts) len = go (crosses x w) refl (one_over_each x ws ts (omega (arith, len)))
  where
    go : (b : Bool) → crosses x w ≡ b → length (tracks_over x ws ts) ≡ length (crossing x ws)
        → length (tracks_over x (w ∷ ws) (t ∷ ts)) ≡ length (crossing x (w ∷ ws))
    go true q r = rw q (ap suc r)
    go false q r = rw q r

all_over : (P : ℕ → Type 0) (x : ℕ) (ws : List Wire) (ts : List ℕ) → length ts ≡ length ws
    → ((j : ℕ) (d : Wire) → j < length ws → crosses x (get_or ws j d) ≡ true → P (get_or ts j 0))
    → AllByRecursion P (tracks_over x ws ts)
all_over P x [] ts len each = tt
all_over P x (w ∷ ws) [] len each = tt
all_over P x (w ∷ ws) (t ∷ ts) len each =
    go (crosses x w) refl (all_over P x ws ts (omega (arith, len)) (λ j d lt. each (suc j) d (omega arith)))
  where
    go : (b : Bool) → crosses x w ≡ b → AllByRecursion P (tracks_over x ws ts)
        → AllByRecursion P (tracks_over x (w ∷ ws) (t ∷ ts))
    go true q r = rw q (each 0 w (omega arith) q, r)
    go false q r = rw q r

pairs_over : (x : ℕ) (ws : List Wire) (ts : List ℕ) → length ts ≡ length ws
    → ((i j : ℕ) (d : Wire) → i < length ws → j < length ws → (i ≡ j → ⊥) → crosses x (get_or ws i d) ≡ true
    → crosses x (get_or ws j d) ≡ true → get_or ts i 0 ≡ get_or ts j 0 → ⊥)
    → EachPair (λ s t. s ≡ t → ⊥) (tracks_over x ws ts)
pairs_over x [] ts len apart = tt
pairs_over x (w ∷ ws) [] len apart = tt
pairs_over x (w ∷ ws) (t ∷ ts) len apart =
    go (crosses x w) refl (pairs_over x ws ts (omega (arith, len))
    (λ i j d li lj ne. apart (suc i) (suc j) d (omega arith) (omega arith) (λ e. ne (omega (arith, e)))))
  where
    go : (b : Bool) → crosses x w ≡ b → EachPair (λ s u. s ≡ u → ⊥) (tracks_over x ws ts)
        → EachPair (λ s u. s ≡ u → ⊥) (tracks_over x (w ∷ ws) (t ∷ ts))
    go true q r = rw q (
      all_over (λ u. t ≡ u → ⊥) x ws ts (omega (arith, len))
          (λ j d lt c. apart 0 (suc j) d (omega arith) (omega arith) (λ e. absurd (omega (arith, e))) q c),
      r,
    )
    go false q r = rw q r

pub no_fewer : (ws : List Wire) (track : List ℕ) (used : ℕ) → EndsApart ws → AreApart ws track used
    → tracks_used ws ≤ used
no_fewer ws track used ends a =
    let x = column_of ws in
    let fits = distinct_fit (λ t. t) 0 used (tracks_over x ws track)
    (pairs_over x ws track a.one_each (a.distinct x))
    (all_over (λ t. 0 ≤ t) x ws track a.one_each (λ j d lt c. omega arith))
    (all_over (λ t. t < used) x ws track a.one_each (λ j d lt c. a.below_used j lt))
    (omega arith) in
    omega (arith, fits, one_over_each x ws track a.one_each, (route_is ws ends).density.reached)
