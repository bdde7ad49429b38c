-- Which gates an output needs: those to which operands lead from it.
use Rattle.std.specs.Prelude.{◌≡◌, ℕ, List, [], ◌∷◌, Contains, slice_get}
use Rattle.circuit.specs.declared.gate.Gate.{Gate}
use Rattle.circuit.specs.PlainNets.{PlainView}
use Rattle.level_balance.specs.Uses.{operands_by}

-- operands lead from gate i by the gates of a path to gate j: each is an operand of the one before
abbrev pub LeadsBy : List Gate → ℕ → List ℕ → ℕ → Type 0
LeadsBy gates i [] j = i ≡ j
LeadsBy gates i (x ∷ xs) j = Contains (operands_by (slice_get gates i)) x × LeadsBy gates x xs j

-- operands lead from an output to gate i
pub record IsNeeded (net : PlainView) (i : ℕ) : Type 0 where
  pub output : ℕ
  pub shown : Contains net.outputs output
  pub path : List ℕ
  pub leads : LeadsBy net.gates output path i
