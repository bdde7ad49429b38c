-- A simulation after its steps, as the contracts of its functions have it: it begins at time 0 without flux, and each
-- step gives the word of the present time, or none.
use Rattle.std.specs.Prelude.{◌≡◌, ℕ, ◌+◌, ◌/◌, Bool, List, [], ◌∷◌, length, Option, Some, slice_get, replicate, take}
use Rattle.circuit_extracted.specs.Circuits.{CircuitView}
use Rattle.pulse_sim.specs.declared.flux.Flux.{Flux}
use Rattle.pulse_sim.specs.declared.flux.Flux.TheVariants.{Off}
use Rattle.pulse_sim.specs.Pulsing.{Pulsing}
use Rattle.pulse_sim.specs.Settled.{settled_tick}

-- a simulation that is new
abbrev pub begun : CircuitView → Pulsing
begun circuit = record { circuit = circuit; time = 0; fluxes = replicate (length circuit.cells) Off }

-- a simulation after a step with this word
abbrev pub stepped : Pulsing → Option (List Bool) → Pulsing
stepped s word = record {
  circuit = s.circuit;
  time = s.time + 1;
  fluxes = settled_tick s.circuit word s.time s.fluxes;
}

-- a simulation after these steps
abbrev pub after_steps : Pulsing → List (Option (List Bool)) → Pulsing
after_steps s [] = s
after_steps s (word ∷ words) = after_steps (stepped s word) words

-- the fluxes of a new simulation after the first t of these steps
abbrev pub state_after : CircuitView → List (Option (List Bool)) → ℕ → List Flux
state_after circuit steps t = (after_steps (begun circuit) (take t steps)).fluxes

-- each step was given the word that is present at its time
abbrev pub AreGiven : List (List Bool) → List (Option (List Bool)) → Type 0
AreGiven words steps =
    (t : ℕ) (word : Option (List Bool)) → slice_get steps t ≡ Some word → word ≡ slice_get words (t / 4)
