-- The pins of a layer in the net of a shape, and where a list of numbers names one that is looked for.
use Rattle.std.specs.Prelude.{◌≡◌, ◌≢◌, ℕ, ◌<◌, List, length, Option, Some, None, slice_get, slice_index}
use Rattle.geom.specs.declared.shapes.Shape.{Shape}
use Rattle.layout_rules.specs.Touch.{Joined}

-- the number is that of a shape of the layer in the net of a
pub record IsPinIn (shapes : List Shape) (layer a b : ℕ) : Type 0 where
  pub pin : Shape
  pub pin_is : slice_get shapes b ≡ Some pin
  pub of_layer : pin.layer ≡ layer
  pub joined : Joined shapes a b

-- the first of these numbers that is another than a
pub record IsFirstOther (numbers : List ℕ) (a b : ℕ) : Type 0 where
  pub place : ℕ
  pub within : place < length numbers
  pub number_is : slice_index numbers place ≡ b
  pub apart : b ≢ a
  pub before : (k : ℕ) → k < place → slice_index numbers k ≡ a

-- the first of these numbers that is another than a, or nothing where there is none
abbrev pub FindsOther : List ℕ → ℕ → Option ℕ → Type 0
FindsOther numbers a None = (k : ℕ) → k < length numbers → slice_index numbers k ≡ a
FindsOther numbers a (Some b) = IsFirstOther numbers a b

-- the first of these numbers, or nothing where there is none
abbrev pub FindsFirst : List ℕ → Option ℕ → Type 0
FindsFirst numbers None = length numbers ≡ 0
FindsFirst numbers (Some b) = (0 < length numbers) × (slice_index numbers 0 ≡ b)

-- a number where there is no other
abbrev pub lone_number : Option ℕ → ℕ → Option ℕ
lone_number None a = Some a
lone_number (Some b) a = None
