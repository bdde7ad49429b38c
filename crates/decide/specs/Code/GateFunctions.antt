-- The functions of gates, as edges of a diagram.
use Rattle.std.specs.Prelude.{◌≡◌, ℕ, ◌<◌, Bool, List, length, slice_index_or}
use Rattle.circuit.specs.Gates.{gate_value}
use Rattle.circuit.specs.declared.gate.Gate.{Gate}
use Rattle.decide.specs.declared.edge.Edge.{Edge}
use Rattle.decide.specs.declared.edge.Node.{Node}
use Rattle.circuit.specs.CellNets.{value}
use Rattle.decide.specs.Code.Diagrams.{regular, edge_value}

-- the edge of a gate
abbrev pub edge_of : List Edge → ℕ → Edge
edge_of edges i = slice_index_or edges i (regular 0)

-- the function of a gate, from the edges of those that it names
abbrev pub gate_function : List Node → List Edge → Gate → List Bool → Bool
gate_function nodes edges g x = gate_value x (λ i. edge_value nodes x (edge_of edges i)) g

-- so many first gates have edges, with their values
pub record AreValues (nodes : List Node) (edges : List Edge) (gates : List Gate) (count : ℕ) : Type 0 where
  pub size : length edges ≡ count
  pub inside : (i : ℕ) → i < count → (edge_of edges i).node < length nodes
  pub values : (i : ℕ) → i < count → (x : List Bool) → edge_value nodes x (edge_of edges i) ≡ value gates x i
