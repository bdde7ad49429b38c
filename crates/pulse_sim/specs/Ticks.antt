-- A tick of the four-phase clock: at time t the cells of phase t mod 4 switch, and those of phase t + 2 mod 4 relax, in
-- any order.
use Rattle.std.specs.Prelude.{ℕ, suc, ◌+◌, ◌%◌, ◌==◌, Bool, true, false, List, [], ◌∷◌, ◌++◌, Option}
use Rattle.std.specs.List.Sorted.{IsPermutation}
use Rattle.circuit_extracted.specs.declared.cells.ExCell.{ExCell}
use Rattle.circuit_extracted.specs.Circuits.{CircuitView}
use Rattle.pulse_sim.specs.declared.flux.Flux.{Flux}
use Rattle.pulse_sim.specs.Events.{Event, Switch, Relax, Happen}

-- the events of one cell at a time: it switches in its phase, and relaxes two phases later
abbrev pub due_of : ℕ → ℕ → ExCell → List Event
due_of time c cell = elim (cell.phase == time % 4) [
  | true ↦ Switch c ∷ []
  | false ↦ elim (cell.phase == (time + 2) % 4) [ true ↦ Relax c ∷ [] | false ↦ [] ]
]

-- the events at a time of cells that are numbered from c
abbrev pub due_from : ℕ → ℕ → List ExCell → List Event
due_from time c [] = []
due_from time c (cell ∷ cells) = due_of time c cell ++ due_from time (suc c) cells

-- a tick has exactly the events of its time, in any order
pub record Ticks (undecided : Flux → Type 0) (circuit : CircuitView) (word : Option (List Bool)) (time : ℕ)
    (old new : List Flux) : Type 0 where
  pub events : List Event
  pub due : IsPermutation (due_from time 0 circuit.cells) events
  pub happen : Happen undecided circuit word old events new
