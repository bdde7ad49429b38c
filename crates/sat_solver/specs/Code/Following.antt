-- Literals that follow from others, which is what the steps of a search show.
use Rattle.std.specs.Prelude.{◌≡◌, ℕ, Bool, true, false, List}
use Rattle.mig.specs.declared.node.Node.{Node}
use Rattle.mig.specs.Graphs.{literal_value, node_value, Fits}
use Rattle.mig.specs.Building.{BuilderView}
use Rattle.sat_solver.specs.Clauses.{AreTrue}

-- where the first are all true, so is this
pub record Follows (b : BuilderView) (from : List ℕ) (literal : ℕ) : Type 0 where
  pub shows : (word : List Bool) (v : ℕ → Bool) → Fits b.inputs b.nodes word v → AreTrue v from
      → literal_value v literal ≡ true

-- where the implied literals are true and this one is false, the further one is true
pub record IsImplied (implied : List ℕ) (literal further : ℕ) : Type 0 where
  pub shows : (v : ℕ → Bool) → AreTrue v implied → literal_value v literal ≡ false → literal_value v further ≡ true

-- two operands that are true make the majority true
pub record HasBoth (node : Node) (p q : ℕ) : Type 0 where
  pub shows : (v : ℕ → Bool) → literal_value v p ≡ true → literal_value v q ≡ true → node_value v node ≡ true

-- no values make all of these true
pub record AreConflicting (implied : List ℕ) : Type 0 where
  pub never : (v : ℕ → Bool) → AreTrue v implied → ⊥
