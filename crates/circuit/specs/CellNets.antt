-- Circuits of gates of which each names lower ones: what they keep, and the value of each gate at a word.
use Rattle.std.specs.Prelude.{◌≡◌, ℕ, ◌<◌, ◌^◌, Bool, List, length, Some, slice_get}
use Rattle.std.specs.List.{AllByRecursion}
use Rattle.circuit.specs.PlainNets.{PlainView}
use Rattle.circuit.specs.Gates.{equation}
use Rattle.circuit.specs.Ranked.{solution}
use Rattle.circuit.specs.declared.gate.Gate.{Gate}
use Rattle.circuit.specs.declared.gate.Gate.TheVariants.{Input, Zero, One, Buf, Inv, Maj}

-- a gate at place i of a circuit with n inputs reads an input that is there, or lower gates
abbrev pub Reads : ℕ → ℕ → Gate → Type 0
Reads n i (Input k) = k < n
Reads n i Zero = Unit {0}
Reads n i One = Unit {0}
Reads n i (Buf x) = x < i
Reads n i (Inv x) = x < i
Reads n i (Maj x y z) = (x < i) × (y < i) × (z < i)

-- so do all gates of a circuit with n inputs
abbrev pub AreCells : ℕ → List Gate → Type 0
AreCells n gates = (i : ℕ) (g : Gate) → slice_get gates i ≡ Some g → Reads n i g

-- a circuit, from its parts
abbrev pub circuit : ℕ → List Gate → List ℕ → PlainView
circuit inputs gates outputs = record { inputs = inputs; gates = gates; outputs = outputs }

-- what such a circuit keeps
pub record IsCells (net : PlainView) : Type 0 where
  pub gates_read : AreCells net.inputs net.gates
  pub each_output : AllByRecursion (λ x. x < length net.gates) net.outputs
  pub few_outputs : length net.outputs < 2 ^ 32

-- the value of gate i at a word: what the gates' equations give
unfoldable pub value : List Gate → List Bool → ℕ → Bool
value gates word = solution (λ i. i) (equation gates word)
