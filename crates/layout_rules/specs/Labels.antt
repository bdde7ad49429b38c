-- Labels, the pins that they mark, and the numbers that they write.
use Rattle.std.specs.Prelude.{◌≡◌, ℕ, ◌==◌, ◌&&◌, ◌||◌, not, Bool, true, nat_lt, List, ◌∷◌, length, drop}
use Rattle.std.specs.Prelude.{slice_get, slice_index, Some, if◌then◌else◌}
use Rattle.std.specs.List.{list_any, list_all}
use Rattle.std.specs.Char.{is_ascii_digit}
use Rattle.std.specs.Str.Parse.{digits_value}
use Rattle.geom.specs.declared.shapes.Shape.{Shape}
use Rattle.geom.specs.declared.shapes.Label.{Label}
use Rattle.geom.specs.declared.shapes.Flat.{Flat}
use Rattle.geom.specs.Rectangle.{holds_point}
use Rattle.layout_rules.specs.declared.layers.TheConstants.{INPUT_PIN, OUTPUT_PIN, LABELS}

-- the byte `I`
abbrev pub letter_i : ℕ
letter_i = 73

-- the byte `O`
abbrev pub letter_o : ℕ
letter_o = 79

-- the pins that a label may mark: `I` names inputs, anything else outputs
abbrev pub marked_layer : Label → ℕ
marked_layer label = (if slice_index label.text 0 == letter_i then INPUT_PIN else OUTPUT_PIN)

-- the label stands on the pin, its edges counted, and is of its kind
abbrev pub marks : Label → Shape → Bool
marks label pin = label.layer == LABELS && pin.layer == marked_layer label && holds_point pin.rect label.x label.y

-- the label and the pin of these numbers, labels being counted from 0 here, are so
pub record Marks (flat : Flat) (l p : ℕ) : Type 0 where
  pub label : Label
  pub pin : Shape
  pub label_is : slice_get flat.labels l ≡ Some label
  pub pin_is : slice_get flat.shapes p ≡ Some pin
  pub marks_so : marks label pin ≡ true

-- some label marks the pin
abbrev pub is_labelled : Flat → Shape → Bool
is_labelled flat pin = list_any (λ label. marks label pin) flat.labels

-- decimal digits, with no zero before others
abbrev pub is_decimal : List ℕ → Bool
is_decimal text = list_all is_ascii_digit text
    && (length text == 1 || (nat_lt 1 (length text) && not (slice_index text 0 == 48)))

-- what stands after the first letter
abbrev pub tail : List ℕ → List ℕ
tail text = drop 1 text

-- `I` or `O`, and then a decimal number
abbrev pub is_numbered : Label → Bool
is_numbered label = (slice_index label.text 0 == letter_i || slice_index label.text 0 == letter_o)
    && is_decimal (tail label.text)

-- that number
abbrev pub number_of_label : Label → ℕ
number_of_label label = digits_value 10 (tail label.text)

-- the label has this letter and this number
pub record IsNumbered (label : Label) (letter n : ℕ) : Type 0 where
  pub text_is : label.text ≡ letter ∷ tail label.text
  pub decimal_so : is_decimal (tail label.text) ≡ true
  pub number_is : number_of_label label ≡ n
