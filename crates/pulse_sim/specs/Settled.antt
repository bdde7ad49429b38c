-- The settled run, computed: each sign that nothing decides is minus, and each tick is read off the state before it.
use Rattle.std.specs.Prelude.{ℕ, zero, suc, ◌+◌, ◌/◌, ◌%◌, ◌==◌, ℤ, pos, negsuc, neg_ℤ, ◌+ℤ◌, Bool, true, false, List}
use Rattle.std.specs.Prelude.{[], ◌∷◌, length, Option, Some, None, slice_get, slice_index_or, replicate}
use Rattle.circuit.specs.declared.cell_kind.CellKind.{CellKind}
use Rattle.circuit.specs.declared.cell_kind.CellKind.TheVariants.{Buffer, Inverter, Zero, One, Split2, Split3, Majority}
use Rattle.circuit_extracted.specs.declared.cells.Feed.{Feed}
use Rattle.circuit_extracted.specs.declared.cells.Feed.TheVariants.{Nothing, Pin, Label}
use Rattle.circuit_extracted.specs.declared.cells.ExCell.{ExCell}
use Rattle.circuit_extracted.specs.Circuits.{CircuitView}
use Rattle.pulse_sim.specs.declared.flux.Flux.{Flux}
use Rattle.pulse_sim.specs.declared.flux.Flux.TheVariants.{Minus, Off, Plus}
use Rattle.pulse_sim.specs.Fluxes.{sign, amount}

-- plus where the sum is above 0, else minus
abbrev pub settled_sign : ℤ → Flux
settled_sign (pos zero) = Minus
settled_sign (pos (suc n)) = Plus
settled_sign (negsuc n) = Minus

-- what a cell takes that switches on this sum
abbrev pub settled_take : CellKind → ℤ → Flux
settled_take Buffer sum = settled_sign sum
settled_take Inverter sum = settled_sign (neg_ℤ sum)
settled_take Zero sum = Minus
settled_take One sum = Plus
settled_take Split2 sum = settled_sign sum
settled_take Split3 sum = settled_sign sum
settled_take Majority sum = settled_sign sum

-- the flux of the circuit's input n: the sign of its bit of the present word, and minus without a word
abbrev pub input_flux : Option (List Bool) → ℕ → Flux
input_flux None n = Minus
input_flux (Some word) n = sign (slice_index_or word n false)

-- the flux of a feed: that of the cell that it names, or of the circuit's input; none where nothing feeds
abbrev pub feed_flux : Option (List Bool) → List Flux → Feed → Flux
feed_flux word state Nothing = Off
feed_flux word state (Pin cell output) = slice_index_or state cell Off
feed_flux word state (Label n) = input_flux word n

-- the sum of the fluxes of a cell's feeds
abbrev pub feed_sum : Option (List Bool) → List Flux → ExCell → ℤ
feed_sum word state cell =
    amount (feed_flux word state cell.feed0) +ℤ amount (feed_flux word state cell.feed1)
    +ℤ amount (feed_flux word state cell.feed2)

-- the flux of a cell after the tick, from its flux and the state before it
abbrev pub next_flux : Option (List Bool) → ℕ → List Flux → ExCell → Flux → Flux
next_flux word time state cell flux = elim (cell.phase == time % 4) [
  | true ↦ settled_take cell.kind (feed_sum word state cell)
  | false ↦ elim (cell.phase == (time + 2) % 4) [ true ↦ Off | false ↦ flux ]
]

-- the fluxes of all cells after the tick, each read off the state before it
abbrev pub next_fluxes : Option (List Bool) → ℕ → List Flux → List ExCell → List Flux → List Flux
next_fluxes word time state [] fluxes = []
next_fluxes word time state (cell ∷ cells) [] = []
next_fluxes word time state (cell ∷ cells) (flux ∷ fluxes) =
    next_flux word time state cell flux ∷ next_fluxes word time state cells fluxes

-- the state after the settled tick
abbrev pub settled_tick : CircuitView → Option (List Bool) → ℕ → List Flux → List Flux
settled_tick circuit word time state = next_fluxes word time state circuit.cells state

-- the state after this many ticks
abbrev pub settled_run : CircuitView → List (List Bool) → ℕ → List Flux
settled_run circuit words zero = replicate (length circuit.cells) Off
settled_run circuit words (suc time) =
    settled_tick circuit (slice_get words (time / 4)) time (settled_run circuit words time)
