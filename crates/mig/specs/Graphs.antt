-- Graphs of majorities with complemented edges: what each keeps, and what it answers.
use Rattle.std.specs.Prelude.{◌≡◌, ℕ, ◌+◌, ◌-◌, ◌*◌, ◌/◌, ◌%◌, ◌<◌, ◌^◌, ◌==◌, Bool, false, not, cond}
use Rattle.std.specs.Prelude.{List, map, length, Some, slice_get, slice_index_or}
use Rattle.std.specs.List.{AllByRecursion}
use Rattle.circuit.specs.Function.{majority}
use Rattle.mig.specs.declared.node.Node.{Node}

-- what clauses see of a graph
pub record GraphView : Type 0 where
  pub inputs : ℕ
  pub nodes : List Node
  pub outputs : List ℕ

-- the value of a literal: that of its node, turned where it is odd
unfoldable pub literal_value : (ℕ → Bool) → ℕ → Bool
literal_value v l = cond (l % 2 == 1) (not (v (l / 2))) (v (l / 2))

-- the complement of a literal
abbrev pub turned : ℕ → ℕ
turned l = cond (l % 2 == 1) (l - 1) (l + 1)

-- the value of a majority of literals
unfoldable pub node_value : (ℕ → Bool) → Node → Bool
node_value v node = majority (literal_value v node.x) (literal_value v node.y) (literal_value v node.z)

-- the three literals are below a bound
pub record AreBelow (bound : ℕ) (node : Node) : Type 0 where
  pub x : node.x < bound
  pub y : node.y < bound
  pub z : node.z < bound

-- the first literal that is too great for the operand of a further node
abbrev pub bound : ℕ → ℕ → ℕ
bound inputs nodes = 2 * (1 + inputs + nodes)

-- each node is a majority of literals of lower nodes
pub record AreNodes (inputs : ℕ) (nodes : List Node) : Type 0 where
  pub lower : (k : ℕ) (node : Node) → slice_get nodes k ≡ Some node → AreBelow (bound inputs k) node

-- what a graph keeps
pub record IsGraph (graph : GraphView) : Type 0 where
  pub are_nodes : AreNodes graph.inputs graph.nodes
  pub some_output : 0 < length graph.outputs
  pub each_output : AllByRecursion (λ l. l < bound graph.inputs (length graph.nodes)) graph.outputs
  pub few_nodes : 1 + graph.inputs + length graph.nodes < 2 ^ 30
  pub few_outputs : length graph.outputs < 2 ^ 32

-- these values of nodes fit a word
pub record Fits (inputs : ℕ) (nodes : List Node) (word : List Bool) (values : ℕ → Bool) : Type 0 where
  pub none : values 0 ≡ false
  pub of_input : (i : ℕ) → i < inputs → values (1 + i) ≡ slice_index_or word i false
  pub of_node : (k : ℕ) (node : Node) → slice_get nodes k ≡ Some node
      → values (1 + inputs + k) ≡ node_value values node

-- the answer to a word shows the values of the outputs, where all values fit the word
pub record IsAnswer (graph : GraphView) (word answer : List Bool) : Type 0 where
  pub values : ℕ → Bool
  pub fit : Fits graph.inputs graph.nodes word values
  pub shown : answer ≡ map (literal_value values) graph.outputs
