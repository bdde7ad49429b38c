-- Literals of a graph that grows, and the gates whose values they have.
use Rattle.std.specs.Prelude.{◌≡◌, ℕ, ◌<◌, Bool, List, length, map, slice_index_or}
use Rattle.circuit.specs.declared.gate.Gate.{Gate}
use Rattle.circuit.specs.Gates.{gate_value}
use Rattle.circuit.specs.CellNets.{value}
use Rattle.mig.specs.Graphs.{literal_value, Fits}
use Rattle.mig.specs.Building.{BuilderView, limit}

-- the literal of a gate
abbrev pub literal_of : List ℕ → ℕ → ℕ
literal_of literals i = slice_index_or literals i 0

-- so many first literals are there
abbrev pub AreThere : BuilderView → List ℕ → ℕ → Type 0
AreThere b literals count = (i : ℕ) → i < count → literal_of literals i < limit b

-- the literal is there, and has the gate's value by the literals of the gates that it names
pub record GivesGate (b : BuilderView) (literals : List ℕ) (gate : Gate) (literal : ℕ) : Type 0 where
  pub below : literal < limit b
  pub shows : (word : List Bool) (v : ℕ → Bool) → Fits b.inputs b.nodes word v
      → literal_value v literal ≡ gate_value word (λ i. literal_value v (literal_of literals i)) gate

-- so many first gates have literals, with their values
pub record AreLiterals (b : BuilderView) (literals : List ℕ) (gates : List Gate) (count : ℕ) : Type 0 where
  pub size : length literals ≡ count
  pub there : AreThere b literals count
  pub shows : (i : ℕ) → i < count → (word : List Bool) (v : ℕ → Bool) → Fits b.inputs b.nodes word v
      → literal_value v (literal_of literals i) ≡ value gates word i

-- the literals show what the outputs do
pub record ShowOutputs (b : BuilderView) (gates : List Gate) (outputs literals : List ℕ) : Type 0 where
  pub size : length literals ≡ length outputs
  pub shows : (word : List Bool) (v : ℕ → Bool) → Fits b.inputs b.nodes word v
      → map (literal_value v) literals ≡ map (value gates word) outputs
