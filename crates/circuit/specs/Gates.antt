-- The values of gates, and which values fit a list of gates: majority logic over numbered inputs.
use Rattle.std.specs.Prelude.{◌≡◌, ℕ, Bool, true, false, not, List, Option, Some, None, slice_get, slice_index_or}
use Rattle.circuit.specs.Function.{majority}
use Rattle.circuit.specs.declared.gate.Gate.{Gate}
use Rattle.circuit.specs.declared.gate.Gate.TheVariants.{Input, Zero, One, Buf, Inv, Maj}

-- the value of a gate, from the word and the values of the gates that it names
abbrev pub gate_value : List Bool → (ℕ → Bool) → Gate → Bool
gate_value word v (Input i) = slice_index_or word i false
gate_value word v Zero = false
gate_value word v One = true
gate_value word v (Buf x) = v x
gate_value word v (Inv x) = not (v x)
gate_value word v (Maj x y z) = majority (v x) (v y) (v z)

-- each gate has its value
abbrev pub Fits : List Bool → (ℕ → Bool) → List Gate → Type 0
Fits word v gates = (i : ℕ) (g : Gate) → slice_get gates i ≡ Some g → v i ≡ gate_value word v g

-- the values that a list has, and false past its end
abbrev pub valuation : List Bool → ℕ → Bool
valuation values i = slice_index_or values i false

-- the equation of a gate, and of no gate
abbrev pub equation_of : List Bool → (ℕ → Bool) → Option Gate → Bool
equation_of word v None = false
equation_of word v (Some g) = gate_value word v g

-- the equation of each gate of a list
abbrev pub equation : List Gate → List Bool → ℕ → (ℕ → Bool) → Bool
equation gates word i v = equation_of word v (slice_get gates i)
