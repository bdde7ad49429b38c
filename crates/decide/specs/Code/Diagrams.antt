-- Reduced ordered binary decision diagrams with complemented edges, and the functions of their edges.
use Rattle.std.specs.Prelude.{◌≡◌, ℕ, zero, suc, ◌<◌, ◌≤◌, ◌==◌, Bool, true, false, not, cond, List, length}
use Rattle.std.specs.Prelude.{slice_index_or}
use Rattle.circuit.specs.Function.{majority}
use Rattle.circuit.specs.Ranked.{solution}
use Rattle.decide.specs.declared.edge.Edge.{Edge}
use Rattle.decide.specs.declared.edge.Node.{Node}
use Rattle.decide.specs.declared.edge.Triple.{Triple}

-- the complement of the second where the first is true
abbrev pub flip : Bool → Bool → Bool
flip true b = not b
flip false b = b

-- the edge to a node that is not complemented
abbrev pub regular : ℕ → Edge
regular i = record { node = i; complemented = false }

-- what stands past the last node
abbrev pub no_node : Node
no_node = record { level = 0; low = 0; high = record { node = 0; complemented = false } }

-- node i of a diagram
unfoldable pub node_at : List Node → ℕ → Node
node_at nodes i = slice_index_or nodes i no_node

-- the level of node i: the first one that its function reads
abbrev pub level_of : List Node → ℕ → ℕ
level_of nodes i = (node_at nodes i).level

-- how many inputs there are: the level of node 0
abbrev pub inputs_of : List Node → ℕ
inputs_of nodes = level_of nodes 0

-- the value of a node, from the word and the values of older nodes
abbrev pub choice_value : List Bool → (ℕ → Bool) → Node → Bool
choice_value word v t = cond (slice_index_or word t.level false) (flip t.high.complemented (v t.high.node)) (v t.low)

-- node 0 is false, and each other node is a choice
abbrev pub node_equation : List Node → List Bool → ℕ → (ℕ → Bool) → Bool
node_equation nodes word zero v = false
node_equation nodes word (suc i) v = choice_value word v (node_at nodes (suc i))

-- the value of a node at a word
unfoldable pub node_value : List Node → List Bool → ℕ → Bool
node_value nodes word = solution (λ i. i) (node_equation nodes word)

-- the value of an edge at a word
abbrev pub edge_value : List Node → List Bool → Edge → Bool
edge_value nodes word e = flip e.complemented (node_value nodes word e.node)

-- the majority of three edges at a word
abbrev pub majority_value : List Node → Triple → List Bool → Bool
majority_value nodes t word =
    majority (edge_value nodes word t.first) (edge_value nodes word t.second) (edge_value nodes word t.third)

-- the low or the high edge of a node, complemented where an edge to the node is
abbrev pub child : Node → Bool → Bool → Edge
child t false complemented = record { node = t.low; complemented = complemented }
child t true complemented = record { node = t.high.node; complemented = flip complemented t.high.complemented }

-- the cofactor of an edge, where the variable at a level that is not past its own has a value
abbrev pub cofactor : List Node → Edge → ℕ → Bool → Edge
cofactor nodes e level side = cond (level_of nodes e.node == level) (child (node_at nodes e.node) side e.complemented) e

-- what node i keeps: its low and its high edge lead to older nodes of later levels, and are not the same
pub record IsNode (nodes : List Node) (i : ℕ) (t : Node) : Type 0 where
  pub low_older : t.low < i
  pub high_older : t.high.node < i
  pub low_level : t.level < level_of nodes t.low
  pub high_level : t.level < level_of nodes t.high.node
  pub reads : t.high ≡ regular t.low → ⊥

-- a diagram: node 0, at most 1,000,001 more, and no node twice
pub record IsDiagram (nodes : List Node) : Type 0 where
  pub some : 0 < length nodes
  pub few : length nodes ≤ 1000002
  pub each_node : (i : ℕ) → 0 < i → i < length nodes → IsNode nodes i (node_at nodes i)
  pub once : (i j : ℕ) → 0 < i → i < j → j < length nodes → node_at nodes i ≡ node_at nodes j → ⊥
