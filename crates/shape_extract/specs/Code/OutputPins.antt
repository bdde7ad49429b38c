-- The outputs of a circuit as they are filled in: by the number of each output pin's label.
use Rattle.std.specs.Prelude.{◌≡◌, ℕ, List, length, Option, Some, None, slice_get}
use Rattle.geom.specs.declared.shapes.Flat.{Flat}
use Rattle.layout_rules.specs.Labels.{letter_o}
use Rattle.layout_rules.specs.Pins.{exit_count}
use Rattle.rowed.specs.declared.source.Source.{Source}
use Rattle.shape_extract.specs.Extraction.{IsNamed, IsOutputFrom}

-- the number of the output that the pin shows, or none where it shows none
abbrev pub ShowsOutput : Flat → ℕ → Option ℕ → Type 0
ShowsOutput flat q None = (n : ℕ) → IsNamed flat letter_o n q → ⊥
ShowsOutput flat q (Some n) = IsNamed flat letter_o n q

-- the outputs of the circuit, in order
pub record AreOutputs (flat : Flat) (frames : List ℕ) (outputs : List Source) : Type 0 where
  pub long : length outputs ≡ exit_count flat.shapes
  pub each : (n : ℕ) (source : Source) → slice_get outputs n ≡ Some source → IsOutputFrom flat frames n source
