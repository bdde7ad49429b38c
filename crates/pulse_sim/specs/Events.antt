-- The events of the pulse machine: one cell switches, or one cell relaxes. A state gives the flux of each cell by its
-- number.
use Rattle.std.specs.Prelude.{◌≡◌, ℕ, ◌+ℤ◌, Bool, false, List, [], ◌∷◌, Option, Some, None, slice_index_or, slice_set}
use Rattle.circuit_extracted.specs.declared.cells.Feed.{Feed}
use Rattle.circuit_extracted.specs.declared.cells.Feed.TheVariants.{Nothing, Pin, Label}
use Rattle.circuit_extracted.specs.declared.cells.ExCell.{ExCell}
use Rattle.circuit_extracted.specs.Circuits.{CircuitView, IsCellAt}
use Rattle.pulse_sim.specs.declared.flux.Flux.{Flux}
use Rattle.pulse_sim.specs.declared.flux.Flux.TheVariants.{Off}
use Rattle.pulse_sim.specs.Fluxes.{sign, amount, MayTake}

-- what one cell, by its number, does: it is excited and switches to a flux, or it relaxes and loses its flux
pub data Event : Type 0 where
  Switch : (number : ℕ) → Event
  Relax : (number : ℕ) → Event

-- the flux of the circuit's input n: the sign of its bit of the present word; without a word nothing decides it
abbrev pub IsInputFlux : (Flux → Type 0) → Option (List Bool) → ℕ → Flux → Type 0
IsInputFlux undecided None n flux = undecided flux
IsInputFlux undecided (Some word) n flux = flux ≡ sign (slice_index_or word n false)

-- the flux of a feed: that of the cell that it names, or of the circuit's input
abbrev pub IsFeedFlux : (Flux → Type 0) → Option (List Bool) → List Flux → Feed → Flux → Type 0
IsFeedFlux undecided word state Nothing flux = flux ≡ Off
IsFeedFlux undecided word state (Pin cell output) flux = flux ≡ slice_index_or state cell Off
IsFeedFlux undecided word state (Label n) flux = IsInputFlux undecided word n flux

-- cell number c switches: it takes what the sum of its feeds gives, and all other cells keep their flux
pub record Switches (undecided : Flux → Type 0) (circuit : CircuitView) (word : Option (List Bool)) (old : List Flux)
    (c : ℕ) (new : List Flux) : Type 0 where
  pub cell : ExCell
  pub cell_is : IsCellAt circuit c cell
  pub flux0 : Flux
  pub flux1 : Flux
  pub flux2 : Flux
  pub feed0 : IsFeedFlux undecided word old cell.feed0 flux0
  pub feed1 : IsFeedFlux undecided word old cell.feed1 flux1
  pub feed2 : IsFeedFlux undecided word old cell.feed2 flux2
  pub taken : Flux
  pub may_take : MayTake undecided cell.kind (amount flux0 +ℤ amount flux1 +ℤ amount flux2) taken
  pub new_is : new ≡ slice_set old c taken

-- a cell that relaxes loses its flux
abbrev pub Happens : (Flux → Type 0) → CircuitView → Option (List Bool) → List Flux → Event → List Flux → Type 0
Happens undecided circuit word old (Switch c) new = Switches undecided circuit word old c new
Happens undecided circuit word old (Relax c) new = new ≡ slice_set old c Off

-- one event after another, each on the state that the one before it left
abbrev pub Happen : (Flux → Type 0) → CircuitView → Option (List Bool) → List Flux → List Event → List Flux → Type 0
Happen undecided circuit word old [] new = new ≡ old
Happen undecided circuit word old (event ∷ events) new =
    (middle : List Flux) × Happens undecided circuit word old event middle
    × Happen undecided circuit word middle events new
