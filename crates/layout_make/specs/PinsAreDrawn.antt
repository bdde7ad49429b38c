-- The pins of the cells of a net are drawn: each once, in the frame of its cell, and no others.
use Rattle.std.specs.Prelude.{◌≡◌, ℕ, slice_get, Some}
use Rattle.cell_library.specs.Library.{LibraryView}
use Rattle.geom.specs.declared.shapes.Shape.{Shape}
use Rattle.layout_rules.specs.Pins.{IsPinOf}
use Rattle.layout_rules.specs.declared.layers.TheConstants.{INPUT_PIN, OUTPUT_PIN}
use Rattle.layout_make.specs.Laws.{flat_shapes, FrameAt, InAt, OutAt}
use Rattle.layout_make.specs.Spots.{Spot, IsInput, IsOutput}
use Rattle.rowed.specs.PlacedNets.{PlacedView}

-- each pin of a cell has one shape, which lies in the cell's frame and has the pin's number, and each shape on a layer
-- of pins is that of one of them
pub record PinsAreDrawn (p : PlacedView) (l : LibraryView) : Type 0 where
  pub input : (r n i : ℕ) (x : Spot) → IsInput p r n i x → (m : ℕ) × InAt p l r n i m
  pub input_once : (r n i a b : ℕ) → InAt p l r n i a → InAt p l r n i b → a ≡ b
  pub input_is : (r n i f m : ℕ) → FrameAt p l r n f → InAt p l r n i m → IsPinOf (flat_shapes p l) f INPUT_PIN i m
  pub each_input : (m : ℕ) (a : Shape) → slice_get (flat_shapes p l) m ≡ Some a → a.layer ≡ INPUT_PIN
      → (r n i : ℕ) × InAt p l r n i m
  pub output : (r n o : ℕ) (x : Spot) → IsOutput p r n o x → (m : ℕ) × OutAt p l r n o m
  pub output_once : (r n o a b : ℕ) → OutAt p l r n o a → OutAt p l r n o b → a ≡ b
  pub output_is : (r n o f m : ℕ) → FrameAt p l r n f → OutAt p l r n o m
      → IsPinOf (flat_shapes p l) f OUTPUT_PIN o m
  pub each_output : (m : ℕ) (a : Shape) → slice_get (flat_shapes p l) m ≡ Some a → a.layer ≡ OUTPUT_PIN
      → (r n o : ℕ) × OutAt p l r n o m
