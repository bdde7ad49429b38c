-- Where frames and pins of a placed net stand in its drawing, and the laws of drawing.
use Rattle.std.specs.Prelude.{◌≡◌, ℕ, suc, ◌+◌, ◌*◌, List, slice_get, Some}
use Rattle.cell_library.specs.Library.{LibraryView, input_column_of, output_column_of}
use Rattle.geom.specs.declared.shapes.Shape.{Shape}
use Rattle.layout_rules.specs.Touch.{Joined}
use Rattle.layout_make.specs.Sheet.{Frame, InPin, OutPin}
use Rattle.layout_make.specs.Tags.{At, tags}
use Rattle.rowed.specs.PlacedNets.{PlacedView}
use Rattle.layout_make.specs.Spots.{Spot, spots, IsInput, IsOutput}
use Rattle.rowed.specs.declared.source.Source.{Source}
use Rattle.rowed.specs.RowCells.{source_at}
use Rattle.geom.specs.FlatForm.{flat_of}
use Rattle.layout_make.specs.Draw.{draw}

-- the shapes of the flat form
abbrev pub flat_shapes : PlacedView → LibraryView → List Shape
flat_shapes p l = (flat_of (draw p l)).shapes

-- shape a stands at number i
abbrev pub Is : List Shape → ℕ → Shape → Type 0
Is shapes i a = slice_get shapes i ≡ Some a

-- shape m is the frame of cell n of row r
pub record FrameAt (p : PlacedView) (l : LibraryView) (r n m : ℕ) : Type 0 where
  pub spot : Spot
  pub place : slice_get (spots p r) n ≡ Some spot
  pub at : At (tags p l) m (Frame r spot.slot spot.cell.kind)

-- shape m is input pin i of cell n of row r
pub record InAt (p : PlacedView) (l : LibraryView) (r n i m : ℕ) : Type 0 where
  pub spot : Spot
  pub input : IsInput p r n i spot
  pub at : At (tags p l) m (InPin r (spot.slot * l.columns + input_column_of l spot.cell.kind i) i)

-- shape m is output pin o of cell n of row r
pub record OutAt (p : PlacedView) (l : LibraryView) (r n o m : ℕ) : Type 0 where
  pub spot : Spot
  pub output : IsOutput p r n o spot
  pub at : At (tags p l) m (OutPin r (spot.slot * l.columns + output_column_of l spot.cell.kind o) o)

-- the one output pin in the net of an input is its source's
pub record Drives (p : PlacedView) (l : LibraryView) (r n i m : ℕ) : Type 0 where
  pub spot : Spot
  pub source : Source
  pub place : slice_get (spots p (suc r)) n ≡ Some spot
  pub source_is : source_at spot.cell i ≡ Some source
  pub pin : ℕ
  pub out_at : OutAt p l r source.cell source.output pin
  pub joined : Joined (flat_shapes p l) pin m
  pub only : (q : ℕ) (b : Shape) → Is (flat_shapes p l) q b → b.layer ≡ 22 → Joined (flat_shapes p l) q m → q ≡ pin

-- each input pin above the first row is driven by its source alone, and no pin of the first row by any; a net has one
-- output pin and one input pin at most
pub record WiresJoinPins (p : PlacedView) (l : LibraryView) : Type 0 where
  pub drives : (r n i m : ℕ) → InAt p l (suc r) n i m → Drives p l r n i m
  pub lone : (n i m q : ℕ) (b : Shape) → InAt p l 0 n i m → Is (flat_shapes p l) q b → b.layer ≡ 22
      → Joined (flat_shapes p l) q m → ⊥
  pub one_output : (i j : ℕ) (a b : Shape) → Is (flat_shapes p l) i a → Is (flat_shapes p l) j b → a.layer ≡ 22
      → b.layer ≡ 22 → Joined (flat_shapes p l) i j → i ≡ j
  pub one_input : (i j : ℕ) (a b : Shape) → Is (flat_shapes p l) i a → Is (flat_shapes p l) j b → a.layer ≡ 21
      → b.layer ≡ 21 → Joined (flat_shapes p l) i j → i ≡ j
