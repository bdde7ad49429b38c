-- The rows of the sources of nets, and what the rules say of the shapes that they are read from.
use Rattle.std.specs.Prelude.{◌≡◌, ℕ, ◌<◌, ◌==◌, Bool, true, false, List, length, slice_get, slice_index}
use Rattle.std.specs.Prelude.{Option, Some, None, if◌then◌else◌}
use Rattle.geom.specs.declared.shapes.Shape.{Shape}
use Rattle.geom.specs.declared.shapes.Flat.{Flat}
use Rattle.geom.specs.Rectangle.{IsProper}
use Rattle.layout_rules.specs.declared.layers.TheConstants.{INPUT_PIN, OUTPUT_PIN}
use Rattle.layout_rules.specs.Nets.{AreNets}
use Rattle.layout_rules.specs.Rows.{row_count}
use Rattle.layout_rules.specs.Reports.{ReportsNone}
use Rattle.layout_rules.specs.CircuitRules.{CellsBroken, NetsBroken}
use Rattle.layout_rules.specs.GeometryRules.{FramesBroken}
use Rattle.shape_extract.specs.Code.PinRows.{IsRowOf}

-- each of the shapes is proper
abbrev pub HaveSides : List Shape → Type 0
HaveSides shapes = (n : ℕ) (s : Shape) → slice_get shapes n ≡ Some s → IsProper s.rect

-- the nets are those of the shapes, and the rules of cells, of nets and of frames report nothing
pub record AreInOrder (flat : Flat) (nets : List ℕ) : Type 0 where
  pub are_nets : AreNets flat.shapes nets
  pub cells : ReportsNone (CellsBroken flat.shapes)
  pub driven : ReportsNone (NetsBroken flat)
  pub frames : ReportsNone (FramesBroken flat.shapes)

-- a row that may be there is this one
abbrev pub is_row : ℕ → Option ℕ → Bool
is_row row None = false
is_row row (Some other) = other == row

-- there is a row
abbrev pub is_some_row : Option ℕ → Bool
is_some_row None = false
is_some_row (Some row) = true

-- what stands at a place of the list, and nothing past its end
abbrev pub flat_row : Option (Option ℕ) → Option ℕ
flat_row None = None
flat_row (Some row) = row

-- an output pin of the net, in a cell of the row
pub record HasSource (shapes : List Shape) (nets : List ℕ) (net row : ℕ) : Type 0 where
  pub number : ℕ
  pub pin : Shape
  pub pin_is : slice_get shapes number ≡ Some pin
  pub of_layer : pin.layer ≡ OUTPUT_PIN
  pub net_is : slice_index nets number ≡ net
  pub stands : IsRowOf shapes number row

-- for each net the row of the output pin in it, or nothing where there is none
pub record AreSourceRows (shapes : List Shape) (nets : List ℕ) (rows : List (Option ℕ)) : Type 0 where
  pub long : length rows ≡ length shapes
  pub each : (n : ℕ) (pin : Shape) (row : ℕ) → slice_get shapes n ≡ Some pin → pin.layer ≡ OUTPUT_PIN
      → IsRowOf shapes n row → slice_get rows (slice_index nets n) ≡ Some (Some row)
  pub only : (net row : ℕ) → slice_get rows net ≡ Some (Some row) → HasSource shapes nets net row
  pub within : (net row : ℕ) → slice_get rows net ≡ Some (Some row) → row < row_count shapes

-- the row that is left by the wire with this input pin in this net; nothing where the shape is no wire's pin
abbrev pub row_left : List (Option ℕ) → Shape × ℕ → Option ℕ
row_left rows wire = (if wire.0.layer == INPUT_PIN then flat_row (slice_get rows wire.1) else None)
