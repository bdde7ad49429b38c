-- Runs of the pulse machine. A run gives the state after each number of ticks; word k of the words is present from time
-- 4k to 4k + 3.
use Rattle.std.specs.Prelude.{◌≡◌, ℕ, suc, ◌/◌, ◌<◌, Bool, List, length, slice_get, replicate}
use Rattle.circuit_extracted.specs.Circuits.{CircuitView}
use Rattle.pulse_sim.specs.declared.flux.Flux.{Flux}
use Rattle.pulse_sim.specs.declared.flux.Flux.TheVariants.{Off}
use Rattle.pulse_sim.specs.Fluxes.{EitherSign, MinusAlone}
use Rattle.pulse_sim.specs.Ticks.{Ticks}

-- a run of n ticks: all cells begin without flux, and then come the ticks of times 0 to n - 1
pub record IsRun (undecided : Flux → Type 0) (circuit : CircuitView) (words : List (List Bool)) (n : ℕ)
    (run : ℕ → List Flux) : Type 0 where
  pub begins : run 0 ≡ replicate (length circuit.cells) Off
  pub ticks : (time : ℕ) → time < n
      → Ticks undecided circuit (slice_get words (time / 4)) time (run time) (run (suc time))

-- a run of the machine
abbrev pub IsLegalRun : CircuitView → List (List Bool) → ℕ → (ℕ → List Flux) → Type 0
IsLegalRun circuit words n run = IsRun EitherSign circuit words n run

-- a run in which each sign that nothing decides is minus
abbrev pub IsSettledRun : CircuitView → List (List Bool) → ℕ → (ℕ → List Flux) → Type 0
IsSettledRun circuit words n run = IsRun MinusAlone circuit words n run
