-- Cells of a layout as they are read: the kind that a frame's datatype names, and the pins of one number in a frame.
use Rattle.std.specs.Prelude.{◌≡◌, ℕ, ◌<◌, ◌==◌, ◌&&◌, Bool, false, List, length, count_by}
use Rattle.std.specs.Prelude.{Option, Some, None, slice_get, slice_index}
use Rattle.geom.specs.declared.shapes.Shape.{Shape}
use Rattle.circuit.specs.declared.cell_kind.CellKind.{CellKind}
use Rattle.circuit.specs.CellKinds.{number_of}
use Rattle.layout_rules.specs.Pins.{lies_in}

-- the kind of this number, or none where no kind has it
abbrev pub IsKindNumbered : ℕ → Option CellKind → Type 0
IsKindNumbered n None = (kind : CellKind) → n ≡ number_of kind → ⊥
IsKindNumbered n (Some kind) = n ≡ number_of kind

-- the pin lies in the frame
abbrev pub holds_pin : Shape → Shape → Bool
holds_pin frame pin = lies_in pin frame

-- the shape is on this layer and has this datatype
abbrev pub is_marked : ℕ → ℕ → Shape → Bool
is_marked layer datatype s = s.layer == layer && s.datatype == datatype

-- a shape that may be there is on this layer and has this datatype
abbrev pub is_marked_in : ℕ → ℕ → Option Shape → Bool
is_marked_in layer datatype None = false
is_marked_in layer datatype (Some s) = is_marked layer datatype s

-- the shape of this number is on this layer and has this datatype
abbrev pub is_marked_at : List Shape → ℕ → ℕ → ℕ → Bool
is_marked_at shapes layer datatype n = is_marked_in layer datatype (slice_get shapes n)

-- those of these shapes that are on the layer have datatypes below n
abbrev pub AreBelow : List Shape → List ℕ → ℕ → ℕ → Type 0
AreBelow shapes numbers layer n = (p : ℕ) (s : Shape) → p < length numbers
    → slice_get shapes (slice_index numbers p) ≡ Some s → s.layer ≡ layer → s.datatype < n

-- of each datatype below n one of these shapes is on the layer
abbrev pub AreOneOfEach : List Shape → List ℕ → ℕ → ℕ → Type 0
AreOneOfEach shapes numbers layer n = (datatype : ℕ) → datatype < n
    → count_by (is_marked_at shapes layer datatype) numbers ≡ 1

-- the datatypes on the layer are those below n, each once
pub record AreNumbered (shapes : List Shape) (numbers : List ℕ) (layer n : ℕ) : Type 0 where
  pub below : AreBelow shapes numbers layer n
  pub one_of_each : AreOneOfEach shapes numbers layer n
