-- Pins and the frames of the cells in which they lie.
use Rattle.std.specs.Prelude.{◌≡◌, ℕ, ◌-◌, ◌==◌, ◌&&◌, Bool, true, List, count_by, slice_get, Some}
use Rattle.std.specs.List.{list_any}
use Rattle.geom.specs.declared.shapes.Shape.{Shape}
use Rattle.geom.specs.Rectangle.{within}
use Rattle.layout_rules.specs.declared.layers.TheConstants.{INPUT_PIN, OUTPUT_PIN}
use Rattle.layout_rules.specs.Layers.{is_frame, is_pin}
use Rattle.layout_rules.specs.Rows.{row_of, row_count}

-- a pin within a frame, edges counted
abbrev pub lies_in : Shape → Shape → Bool
lies_in pin frame = is_pin pin && is_frame frame && within pin.rect frame.rect

-- the pin and the frame of these numbers are so
pub record LiesIn (shapes : List Shape) (p f : ℕ) : Type 0 where
  pub pin : Shape
  pub frame : Shape
  pub pin_is : slice_get shapes p ≡ Some pin
  pub frame_is : slice_get shapes f ≡ Some frame
  pub lies_so : lies_in pin frame ≡ true

-- p is the pin, or one of the pins, of this layer and pin number in frame f
pub record IsPinOf (shapes : List Shape) (f layer number p : ℕ) : Type 0 where
  pub pin : Shape
  pub frame : Shape
  pub pin_is : slice_get shapes p ≡ Some pin
  pub frame_is : slice_get shapes f ≡ Some frame
  pub lies_so : lies_in pin frame ≡ true
  pub of_layer : pin.layer ≡ layer
  pub of_number : pin.datatype ≡ number

-- the pin lies in a frame of this row
abbrev pub stands_in : List Shape → ℕ → Shape → Bool
stands_in shapes row pin = list_any (λ frame. lies_in pin frame && row_of shapes frame.rect.y0 == row) shapes

-- an input pin of the lowest row, by which a word enters the chip
abbrev pub is_entry : List Shape → Shape → Bool
is_entry shapes pin = pin.layer == INPUT_PIN && stands_in shapes 0 pin

-- an output pin of the last row, by which an answer leaves it
abbrev pub is_exit : List Shape → Shape → Bool
is_exit shapes pin = pin.layer == OUTPUT_PIN && stands_in shapes (row_count shapes - 1) pin

-- how many inputs the chip has
abbrev pub entry_count : List Shape → ℕ
entry_count shapes = count_by (is_entry shapes) shapes

-- how many outputs it has
abbrev pub exit_count : List Shape → ℕ
exit_count shapes = count_by (is_exit shapes) shapes
