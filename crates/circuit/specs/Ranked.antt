-- Equations for truth values, each over values of lower rank, and their solution.
use Rattle.std.specs.Prelude.{◌≡◌, ℕ, zero, suc, ◌<◌, Bool, false}

-- the equation of c reads only values of lower rank: it is the same for values that agree there
abbrev pub IsRanked : (ℕ → ℕ) → (ℕ → (ℕ → Bool) → Bool) → Type 0
IsRanked rank equation =
    (c : ℕ) (v w : ℕ → Bool) → ((d : ℕ) → rank d < rank c → v d ≡ w d) → equation c v ≡ equation c w

-- each value is what its equation gives
abbrev pub Solves : (ℕ → (ℕ → Bool) → Bool) → (ℕ → Bool) → Type 0
Solves equation v = (c : ℕ) → v c ≡ equation c v

-- the equations applied n times to values that are all false
unfoldable pub approximation : (ℕ → (ℕ → Bool) → Bool) → ℕ → ℕ → Bool
approximation equation zero c = false
approximation equation (suc n) c = equation c (approximation equation n)

-- a solution: each value after as many rounds as settle it
unfoldable pub solution : (ℕ → ℕ) → (ℕ → (ℕ → Bool) → Bool) → ℕ → Bool
solution rank equation c = approximation equation (suc (rank c)) c
