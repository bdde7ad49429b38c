-- Nets of majorities, inverters and buffers: what each keeps, and what it answers.
use Rattle.std.specs.Prelude.{◌≡◌, ℕ, ◌+◌, ◌<◌, ◌^◌, ◌==◌, ◌||◌, Bool, false, List, map, length, Some, slice_get}
use Rattle.std.specs.List.{AllByRecursion}
use Rattle.circuit.specs.Function.{majority}
use Rattle.circuit.specs.Gates.{Fits}
use Rattle.circuit.specs.declared.gate.Gate.{Gate}
use Rattle.circuit.specs.declared.gate.Gate.TheVariants.{Input, Zero, One, Buf, Inv, Maj}

-- what clauses see of a net
pub record PlainView : Type 0 where
  pub inputs : ℕ
  pub gates : List Gate
  pub outputs : List ℕ

-- of a net with n inputs, gate n is Zero and the next one is One
abbrev pub is_constant : ℕ → ℕ → Bool
is_constant n x = x == n || x == n + 1

-- the gate may stand at place i of a net with n inputs: inputs come first, then the constants; then each gate names
-- lower ones, a buffer or an inverter no constant, and of the operands of a majority no two are constants
abbrev pub MayStand : ℕ → ℕ → Gate → Type 0
MayStand n i (Input k) = (k ≡ i) × (i < n)
MayStand n i Zero = i ≡ n
MayStand n i One = i ≡ n + 1
MayStand n i (Buf x) = (n + 1 < i) × (x < i) × (is_constant n x ≡ false)
MayStand n i (Inv x) = (n + 1 < i) × (x < i) × (is_constant n x ≡ false)
MayStand n i (Maj x y z) =
    (n + 1 < i) × (x < i) × (y < i) × (z < i) × (majority (is_constant n x) (is_constant n y) (is_constant n z) ≡ false)

-- both constants are there, and each gate may stand where it does
pub record AreGates (n : ℕ) (gates : List Gate) : Type 0 where
  pub zero_at : slice_get gates n ≡ Some Zero
  pub one_at : slice_get gates (n + 1) ≡ Some One
  pub stands : (i : ℕ) (g : Gate) → slice_get gates i ≡ Some g → MayStand n i g

-- what a net of gates keeps: its gates stand where they may, and each output names a gate; there is some output
pub record IsPlainNet (net : PlainView) : Type 0 where
  pub gates_stand : AreGates net.inputs net.gates
  pub some_output : 0 < length net.outputs
  pub each_output : AllByRecursion (λ x. x < length net.gates) net.outputs
  pub few_gates : length net.gates < 2 ^ 32
  pub few_outputs : length net.outputs < 2 ^ 32

-- the answer to a word shows the outputs' values, where all values fit the word
pub record IsAnswer (net : PlainView) (word answer : List Bool) : Type 0 where
  pub values : ℕ → Bool
  pub fit : Fits word values net.gates
  pub shown : answer ≡ map values net.outputs
