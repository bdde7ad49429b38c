-- Outputs that differ, and words that show it.
use Rattle.std.specs.Prelude.{◌≡◌, ◌≢◌, ℕ, ◌<◌, Bool, List, length, slice_index_or}
use Rattle.circuit.specs.PlainNets.{PlainView}
use Rattle.circuit.specs.Gates.{valuation}
use Rattle.decide.specs.Verdicts.{shown}

-- two lists of outputs show different values at this place, the values of the gates being these
pub record IsOther (outputs : List ℕ) (values : List Bool) (other_outputs : List ℕ) (other_values : List Bool)
    (place : ℕ)
    : Type 0 where
  pub within : place < length outputs
  pub differ : valuation values (slice_index_or outputs place 0)
      ≢ valuation other_values (slice_index_or other_outputs place 0)

-- the output of two circuits differs at this word
pub record DiffersAt (a b : PlainView) (output : ℕ) (word : List Bool) : Type 0 where
  pub within : output < length a.outputs
  pub differ : shown a output word ≢ shown b output word

-- so it does, and the word is of the circuits' length
pub record IsDifference (a b : PlainView) (output : ℕ) (word : List Bool) : Type 0 where
  pub long : length word ≡ a.inputs
  pub at : DiffersAt a b output word
