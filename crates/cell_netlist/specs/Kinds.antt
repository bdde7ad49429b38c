-- What the definition of a cell computes: a gate of the signals that it names, whatever rows its cover has.
use Rattle.std.specs.Prelude.{◌≡◌, ◌≢◌, ℕ, Bool, List, [], ◌∷◌, Option, Some, None}
use Rattle.std.specs.List.{AllZip}
use Rattle.circuit.specs.Gates.{gate_value}
use Rattle.circuit.specs.declared.gate.Gate.{Gate}
use Rattle.circuit.specs.declared.gate.Gate.TheVariants.{Input, Zero, One, Buf, Inv, Maj}
use Rattle.blif_read.specs.Equations.{cover_value}
use Rattle.blif_read.specs.declared.netlist.Def.{Def}

-- the signals that a gate names, in order
abbrev pub operands_of : Gate → List ℕ
operands_of (Input i) = []
operands_of Zero = []
operands_of One = []
operands_of (Buf x) = x ∷ []
operands_of (Inv x) = x ∷ []
operands_of (Maj x y z) = x ∷ y ∷ z ∷ []

-- the gate is that of a cell: a constant, a buffer, an inverter, or the majority of three different signals
abbrev pub IsCellGate : Gate → Type 0
IsCellGate (Input i) = ⊥
IsCellGate (Maj x y z) = (x ≢ y) × (x ≢ z) × (y ≢ z)
IsCellGate gate = Unit {0}

-- the definition names the signals of the gate, in order, and has its value, whatever values signals have
pub record Computes (def : Def) (gate : Gate) : Type 0 where
  pub cell : IsCellGate gate
  pub named : def.inputs ≡ operands_of gate
  pub valued : (v : ℕ → Bool) → cover_value def v ≡ gate_value [] v gate

-- the gate of a definition; none where it computes none of a cell
abbrev pub IsGateOf : Def → Option Gate → Type 0
IsGateOf def (Some gate) = Computes def gate
IsGateOf def None = (gate : Gate) → Computes def gate → ⊥

-- so it is for all definitions, in order
abbrev pub AreGatesOf : List Def → List (Option Gate) → Type 0
AreGatesOf defs gates = AllZip IsGateOf defs gates
