-- The number by which a label names a pin, of an input by `I` and of an output by `O`.
use Rattle.std.specs.Prelude.{◌≡◌, ℕ, Option, Some, None, slice_get}
use Rattle.geom.specs.declared.shapes.Shape.{Shape}
use Rattle.geom.specs.declared.shapes.Flat.{Flat}
use Rattle.layout_rules.specs.declared.layers.TheConstants.{INPUT_PIN, OUTPUT_PIN}
use Rattle.layout_rules.specs.Labels.{letter_i, letter_o, Marks}
use Rattle.shape_extract.specs.Extraction.{IsNamed}

-- the shape of this number is on the layer
pub record IsOn (flat : Flat) (layer p : ℕ) : Type 0 where
  pub shape : Shape
  pub shape_is : slice_get flat.shapes p ≡ Some shape
  pub of_layer : shape.layer ≡ layer

-- a label names the pin by this number
pub record IsNameOf (flat : Flat) (p n : ℕ) : Type 0 where
  pub input : IsOn flat INPUT_PIN p → IsNamed flat letter_i n p
  pub output : IsOn flat OUTPUT_PIN p → IsNamed flat letter_o n p

-- the pin's number, or none where no label marks it
abbrev pub Names : Flat → ℕ → Option ℕ → Type 0
Names flat p None = (l : ℕ) → Marks flat l p → ⊥
Names flat p (Some n) = IsNameOf flat p n
