-- Graphs that grow, and the values of their literals.
use Rattle.std.specs.Prelude.{◌≡◌, ℕ, ◌+◌, ◌<◌, ◌≤◌, ◌^◌, Bool, List, length, Some, slice_get}
use Rattle.std.specs.List.{AllByRecursion}
use Rattle.mig.specs.declared.node.Node.{Node}
use Rattle.mig.specs.declared.refusal.GraphRefusal.{GraphRefusal}
use Rattle.mig.specs.declared.refusal.GraphRefusal.TheVariants.{TooManyNodes}
use Rattle.mig.specs.Graphs.{literal_value, node_value, AreBelow, AreNodes, Fits, bound}

-- what clauses see of a graph that grows
pub record BuilderView : Type 0 where
  pub inputs : ℕ
  pub nodes : List Node

-- the first literal that is not there
abbrev pub limit : BuilderView → ℕ
limit b = bound b.inputs (length b.nodes)

-- what it keeps
pub record IsBuilder (b : BuilderView) : Type 0 where
  pub are_nodes : AreNodes b.inputs b.nodes
  pub few_nodes : 1 + b.inputs + length b.nodes < 2 ^ 30

-- the second has the nodes of the first, and maybe more
pub record Grown (from to : BuilderView) : Type 0 where
  pub same_inputs : to.inputs ≡ from.inputs
  pub longer : length from.nodes ≤ length to.nodes
  pub kept : (k : ℕ) (node : Node) → slice_get from.nodes k ≡ Some node → slice_get to.nodes k ≡ Some node

-- the literal is there, and has this value where values fit a word
pub record Gives (b : BuilderView) (literal : ℕ) (value : (ℕ → Bool) → Bool) : Type 0 where
  pub below : literal < limit b
  pub shows : (word : List Bool) (v : ℕ → Bool) → Fits b.inputs b.nodes word v → literal_value v literal ≡ value v

-- the literal has the value of the majority of these, which are there
pub record Splits (b : BuilderView) (literal : ℕ) (node : Node) : Type 0 where
  pub below : AreBelow (limit b) node
  pub shows : (word : List Bool) (v : ℕ → Bool) → Fits b.inputs b.nodes word v
      → literal_value v literal ≡ node_value v node

-- where the refusal is for nodes, there are all but two of 2^30 already
abbrev pub IsFull : BuilderView → GraphRefusal → Type 0
IsFull b refusal = refusal ≡ TooManyNodes → 2 ^ 30 ≤ 2 + b.inputs + length b.nodes

-- the literals are there
abbrev pub AllThere : BuilderView → List ℕ → Type 0
AllThere b literals = AllByRecursion (λ l. l < limit b) literals
