-- What conducts and what keeps its distance, told by the layers of two shapes.
use Rattle.std.specs.Prelude.{ℕ, ◌==◌, ◌&&◌, ◌||◌, Bool}
use Rattle.layout_rules.specs.declared.layers.TheConstants.{M1, VIA, M2, INPUT_PIN, OUTPUT_PIN}

-- a layer of pins
abbrev pub is_pin : ℕ → Bool
is_pin n = n == INPUT_PIN || n == OUTPUT_PIN

-- lower metal, of which pins are made
abbrev pub is_lower : ℕ → Bool
is_lower n = n == M1 || is_pin n

-- a layer of metal that is measured
abbrev pub is_metal : ℕ → Bool
is_metal n = n == M1 || n == M2

-- current flows between shapes of these layers where they touch
abbrev pub conduct : ℕ → ℕ → Bool
conduct a b = (is_lower a && is_lower b) || (a == M2 && b == M2) || (a == VIA && (is_lower b || b == M2))
    || (b == VIA && (is_lower a || a == M2))

-- shapes of these layers keep their distance from each other
abbrev pub one_group : ℕ → ℕ → Bool
one_group a b = (is_lower a && is_lower b) || (a == VIA && b == VIA) || (a == M2 && b == M2)
