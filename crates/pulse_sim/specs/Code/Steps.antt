-- What a settled tick does in place: first the cells of one phase switch, then those of another relax.
use Rattle.std.specs.Prelude.{◌≡◌, ◌≢◌, ℕ, ◌<◌, Bool, List, length, Option, Some, slice_get, slice_index}
use Rattle.std.specs.Prelude.{slice_index_or}
use Rattle.circuit_extracted.specs.declared.cells.ExCell.{ExCell}
use Rattle.circuit_extracted.specs.declared.cells.Feed.TheVariants.{Pin}
use Rattle.circuit_extracted.specs.Circuits.{feed_at}
use Rattle.pulse_sim.specs.declared.flux.Flux.{Flux}
use Rattle.pulse_sim.specs.declared.flux.Flux.TheVariants.{Off}
use Rattle.pulse_sim.specs.Settled.{settled_take, feed_sum}

-- the first n of these numbers don't name cell c
abbrev pub IsNoneOf : List ℕ → ℕ → ℕ → Type 0
IsNoneOf numbers n c = (p : ℕ) → p < n → slice_index numbers p ≢ c

-- the first n of these cells have taken what the state before gives them, and the others are as they were
pub record AreSwitched (cells : List ExCell) (word : Option (List Bool)) (numbers : List ℕ) (n : ℕ)
    (old new : List Flux) : Type 0 where
  pub long : length new ≡ length old
  pub taken : (p : ℕ) (cell : ExCell) → p < n → slice_get cells (slice_index numbers p) ≡ Some cell
      → slice_index_or new (slice_index numbers p) Off ≡ settled_take cell.kind (feed_sum word old cell)
  pub kept : (c : ℕ) → IsNoneOf numbers n c → slice_index_or new c Off ≡ slice_index_or old c Off

-- the first n of these cells have no flux, and the others are as they were
pub record AreRelaxed (numbers : List ℕ) (n : ℕ) (old new : List Flux) : Type 0 where
  pub long : length new ≡ length old
  pub gone : (p : ℕ) → p < n → slice_index_or new (slice_index numbers p) Off ≡ Off
  pub kept : (c : ℕ) → IsNoneOf numbers n c → slice_index_or new c Off ≡ slice_index_or old c Off

-- no one of these cells reads one of them
abbrev pub IsQuiet : List ExCell → List ℕ → Type 0
IsQuiet cells numbers = (p q i output : ℕ) (cell : ExCell) → p < length numbers → q < length numbers
    → slice_get cells (slice_index numbers p) ≡ Some cell → feed_at cell i ≡ Pin (slice_index numbers q) output → ⊥
