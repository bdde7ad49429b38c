-- What a circuit shows: word k of the answers stands at its outputs d ticks after word k of the words entered, in every
-- run.
use Rattle.std.specs.Prelude.{◌≡◌, ℕ, suc, ◌+◌, ◌*◌, ◌%◌, ◌<◌, Bool, All, List, length, map, Some, slice_get}
use Rattle.std.specs.Prelude.{slice_index_or}
use Rattle.rowed.specs.declared.source.Source.{Source}
use Rattle.circuit_extracted.specs.declared.cells.ExCell.{ExCell}
use Rattle.circuit_extracted.specs.Circuits.{CircuitView, IsCellAt}
use Rattle.pulse_sim.specs.declared.flux.Flux.{Flux}
use Rattle.pulse_sim.specs.declared.flux.Flux.TheVariants.{Off}
use Rattle.pulse_sim.specs.Fluxes.{sign}
use Rattle.pulse_sim.specs.Runs.{IsLegalRun}

-- the cell of the source has this phase
pub record CellHasPhase (circuit : CircuitView) (phase : ℕ) (source : Source) : Type 0 where
  pub cell : ExCell
  pub cell_is : IsCellAt circuit source.cell cell
  pub phase_is : cell.phase ≡ phase

-- the fluxes at these sources
abbrev pub fluxes_at : List Source → List Flux → List Flux
fluxes_at sources state = map (λ source. slice_index_or state source.cell Off) sources

-- in every legal run that goes so far, after the tick of time 4k + d the outputs have the signs of answer k
abbrev pub ShowsAnswers : CircuitView → ℕ → List (List Bool) → List (List Bool) → Type 0
ShowsAnswers circuit d words answers =
    (n : ℕ) (run : ℕ → List Flux) → IsLegalRun circuit words n run
    → (k : ℕ) (answer : List Bool) → slice_get answers k ≡ Some answer → 4 * k + d < n
    → fluxes_at circuit.outputs (run (suc (4 * k + d))) ≡ map sign answer

-- in every legal run the circuit shows these answers at its outputs, each d ticks after its word entered
pub record Shows (circuit : CircuitView) (d : ℕ) (words answers : List (List Bool)) : Type 0 where
  pub as_many : length answers ≡ length words
  -- a value for each input, and a value for each output
  pub words_wide : All (λ word. length word ≡ circuit.inputs) words
  pub answers_wide : All (λ answer. length answer ≡ length circuit.outputs) answers
  -- the cells at the outputs switch at the times 4k + d
  pub in_phase : (k : ℕ) (source : Source) → slice_get circuit.outputs k ≡ Some source
      → CellHasPhase circuit (d % 4) source
  pub shown : ShowsAnswers circuit d words answers
