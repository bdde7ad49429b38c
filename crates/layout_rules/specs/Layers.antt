-- What a shape is, by its layer. The numbering of the layers is this project's own.
use Rattle.std.specs.Prelude.{◌==◌, ◌||◌, Bool}
use Rattle.geom.specs.declared.shapes.Shape.{Shape}
use Rattle.layout_rules.specs.declared.layers.TheConstants.{M1, VIA, M2, EVEN_LINE, ODD_LINE}
use Rattle.layout_rules.specs.declared.layers.TheConstants.{FRAME, INPUT_PIN, OUTPUT_PIN}

-- the frame of a cell
abbrev pub is_frame : Shape → Bool
is_frame s = s.layer == FRAME

-- an input pin or an output pin
abbrev pub is_pin : Shape → Bool
is_pin s = s.layer == INPUT_PIN || s.layer == OUTPUT_PIN

-- a via between the two metals
abbrev pub is_via : Shape → Bool
is_via s = s.layer == VIA

-- lower or upper metal
abbrev pub is_metal : Shape → Bool
is_metal s = s.layer == M1 || s.layer == M2

-- what lies in the plane of the lower metal: M1 and the pins
abbrev pub is_lower : Shape → Bool
is_lower s = s.layer == M1 || is_pin s

-- what lies in the plane of the upper metal: M2
abbrev pub is_upper : Shape → Bool
is_upper s = s.layer == M2

-- a part of an excitation line
abbrev pub is_line : Shape → Bool
is_line s = s.layer == EVEN_LINE || s.layer == ODD_LINE
