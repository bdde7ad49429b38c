-- The state of a simulation: a circuit, the time, and the flux of each cell.
use Rattle.std.specs.Prelude.{◌≡◌, ℕ, ◌<◌, Bool, true, false, List, length, map, slice_get, slice_index, Some}
use Rattle.circuit_extracted.specs.declared.cells.ExCell.{ExCell}
use Rattle.circuit_extracted.specs.Circuits.{CircuitView, KeepsFacts}
use Rattle.pulse_sim.specs.declared.flux.Flux.{Flux}
use Rattle.pulse_sim.specs.declared.flux.Flux.TheVariants.{Minus, Off, Plus}
use Rattle.pulse_sim.specs.Shows.{fluxes_at}

-- what a contract sees of a simulation
pub record Pulsing : Type 0 where
  pub circuit : CircuitView
  pub time : ℕ
  pub fluxes : List Flux

-- the circuit is one that a layout can hold, and each of its cells has a flux
pub record IsPulsing (state : Pulsing) : Type 0 where
  pub keeps : KeepsFacts state.circuit
  pub each_flux : length state.fluxes ≡ length state.circuit.cells

-- the truth value that a flux shows: plus is true; minus, and no flux at all, are false
abbrev pub is_plus : Flux → Bool
is_plus Minus = false
is_plus Off = false
is_plus Plus = true

-- the values that stand at the outputs: true where the flux is plus
abbrev pub values_shown : Pulsing → List Bool
values_shown state = map is_plus (fluxes_at state.circuit.outputs state.fluxes)

-- the cell of this number has this phase
pub record IsInPhase (cells : List ExCell) (phase c : ℕ) : Type 0 where
  pub cell : ExCell
  pub cell_is : slice_get cells c ≡ Some cell
  pub phase_is : cell.phase ≡ phase

-- the numbers are those of the cells of this phase
pub record AreInPhase (cells : List ExCell) (phase : ℕ) (numbers : List ℕ) : Type 0 where
  pub each : (p : ℕ) → p < length numbers → IsInPhase cells phase (slice_index numbers p)
  pub complete : (c : ℕ) → IsInPhase cells phase c → (p : ℕ) × ((p < length numbers) × (slice_index numbers p ≡ c))

-- the numbers of the cells of each of the four phases
pub record AreByPhase (cells : List ExCell) (phases : List (List ℕ)) : Type 0 where
  pub four : length phases ≡ 4
  pub each_phase : (phase : ℕ) (numbers : List ℕ) → slice_get phases phase ≡ Some numbers
      → AreInPhase cells phase numbers
