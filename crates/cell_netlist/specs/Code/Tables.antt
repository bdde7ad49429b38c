-- Inputs that definitions have taken.
use Rattle.std.specs.Prelude.{◌≡◌, ℕ, ◌<◌, Bool, true, false, nat_eq, List, [], ◌∷◌, length, slice_index_or, slice_set}
use Rattle.std.specs.List.{list_any}

-- one of the signals is taken
abbrev pub shares : List Bool → List ℕ → Bool
shares taken signals = list_any (λ s. slice_index_or taken s false) signals

-- these signals are taken too, those that have a place
abbrev pub take_all : List Bool → List ℕ → List Bool
take_all taken [] = taken
take_all taken (s ∷ signals) = take_all (slice_set taken s true) signals

-- there is a place for each input, and those are taken that stand among other signals
pub record IsTaken (taken : List Bool) (inputs : ℕ) (signals : List ℕ) : Type 0 where
  pub long : length taken ≡ inputs
  pub each : (s : ℕ) → s < inputs → slice_index_or taken s false ≡ list_any (nat_eq s) signals
