-- The cells of a net are drawn: their rows, frames, pins, excitation and labels.
use Rattle.std.specs.Prelude.{◌≡◌, ℕ, ◌<◌, ◌⊎◌, true, List, length, slice_get, Some, int_lt, ℤ, map, pos}
use Rattle.cell_library.specs.Library.{LibraryView}
use Rattle.circuit.specs.CellKinds.{number_of}
use Rattle.geom.specs.Rectangle.{Rectangle}
use Rattle.geom.specs.declared.shapes.Shape.{Shape}
use Rattle.layout_make.specs.Sheet.{lower_edge}
use Rattle.rowed.specs.PlacedNets.{PlacedView}
use Rattle.layout_make.specs.Spots.{Spot, spots, PortAt, input_port, output_port}
use Rattle.geom.specs.FlatForm.{flat_of}
use Rattle.layout_make.specs.Draw.{input_label, output_label, labels, draw, last_row}
use Rattle.layout_make.specs.Tags.{sheet}
use Rattle.sorting.specs.Numbers.{numbers}
use Rattle.layout_rules.specs.Rows.{AreRows}
use Rattle.layout_rules.specs.ExcitationRule.{IsExcitedAt}
use Rattle.layout_rules.specs.declared.layers.TheConstants.{FRAME}
use Rattle.layout_make.specs.Marks.{MarksOne}
use Rattle.layout_make.specs.PinsAreDrawn.{PinsAreDrawn}
use Rattle.layout_make.specs.Laws.{flat_shapes, FrameAt, InAt, OutAt}

-- the heights of the lower edges of the rows
abbrev pub row_edges : PlacedView → LibraryView → List ℤ
row_edges p l = map (λ r. pos (lower_edge (sheet p l) r)) (numbers 0 (sheet p l).rows)

-- a is below b, or beside it on the left
abbrev pub Before : Rectangle → Rectangle → Type 0
Before a b = (int_lt a.y0 b.y0 ≡ true) ⊎ ((a.y0 ≡ b.y0) × (int_lt a.x0 b.x0 ≡ true))

-- shape m as the frame of a cell
pub record IsFrameOf (p : PlacedView) (l : LibraryView) (edges : List ℤ) (r n m : ℕ) : Type 0 where
  pub spot : Spot
  pub place : slice_get (spots p r) n ≡ Some spot
  pub shape : Shape
  pub at : slice_get (flat_shapes p l) m ≡ Some shape
  pub of_layer : shape.layer ≡ FRAME
  pub of_kind : shape.datatype ≡ number_of spot.cell.kind
  pub of_row : slice_get edges r ≡ Some shape.rect.y0

-- the rows, the frames in the order of the cells, each excited, their pins, and the labels, each at its own pin
pub record CellsAreDrawn (p : PlacedView) (l : LibraryView) : Type 0 where
  pub rows : AreRows (flat_shapes p l) (row_edges p l)
  pub count : length (row_edges p l) ≡ length p.net.rows
  pub excited : (f : ℕ) → IsExcitedAt (flat_shapes p l) f
  pub frame : (r n : ℕ) (x : Spot) → slice_get (spots p r) n ≡ Some x → (m : ℕ) × FrameAt p l r n m
  pub frame_once : (r n a b : ℕ) → FrameAt p l r n a → FrameAt p l r n b → a ≡ b
  pub frame_is : (r n m : ℕ) → FrameAt p l r n m → IsFrameOf p l (row_edges p l) r n m
  pub each_frame : (m : ℕ) (a : Shape) → slice_get (flat_shapes p l) m ≡ Some a → a.layer ≡ FRAME
      → (r n : ℕ) × FrameAt p l r n m
  pub ordered : (r n q m i j : ℕ) (a b : Shape) → FrameAt p l r n i → FrameAt p l q m j
      → slice_get (flat_shapes p l) i ≡ Some a → slice_get (flat_shapes p l) j ≡ Some b → (r < q) ⊎ ((r ≡ q) × (n < m))
      → Before a.rect b.rect
  pub pins : PinsAreDrawn p l
  pub labels_are : (flat_of (draw p l)).labels ≡ labels p l
  pub inputs : (n : ℕ) → n < p.net.inputs → (k m : ℕ) × PortAt p input_port 0 n k × InAt p l 0 k 0 m
      × MarksOne (flat_shapes p l) (input_label p l n) m
  pub outputs : (n : ℕ) → n < p.net.outputs → (k m : ℕ) × PortAt p output_port (last_row p) n k
      × OutAt p l (last_row p) k 0 m × MarksOne (flat_shapes p l) (output_label p l n) m
