-- The outputs of two circuits, as edges of one diagram.
use Rattle.std.specs.Prelude.{◌≡◌, ℕ, ◌<◌, Bool, List, length, slice_index_or}
use Rattle.circuit.specs.declared.gate.Gate.{Gate}
use Rattle.circuit.specs.CellNets.{value}
use Rattle.decide.specs.declared.edge.Edge.{Edge}
use Rattle.decide.specs.declared.edge.Node.{Node}
use Rattle.decide.specs.Code.Diagrams.{edge_value}
use Rattle.decide.specs.Code.GateFunctions.{edge_of}

-- the edge of output k, from the edges of the gates
abbrev pub output_edge : List Edge → List ℕ → ℕ → Edge
output_edge edges outputs k = edge_of edges (slice_index_or outputs k 0)

-- the two circuits have the same edge at output k
abbrev pub IsShared : List Edge → List ℕ → List Edge → List ℕ → ℕ → Type 0
IsShared first outputs second other_outputs k = output_edge first outputs k ≡ output_edge second other_outputs k

-- output k is the first at which they have not
pub record IsFirstDifference (first : List Edge) (outputs : List ℕ)
    (second : List Edge) (other_outputs : List ℕ) (k : ℕ) : Type 0 where
  pub within : k < length outputs
  pub differ : ¬ IsShared first outputs second other_outputs k
  pub before : (j : ℕ) → j < k → IsShared first outputs second other_outputs j

-- the edges have the values of the gates, where the diagram is read at another word for each word
pub record ReadValues (nodes : List Node) (read : List Bool → List Bool)
    (edges : List Edge) (gates : List Gate) : Type 0 where
  pub size : length edges ≡ length gates
  pub inside : (i : ℕ) → i < length gates → (edge_of edges i).node < length nodes
  pub values : (i : ℕ) → i < length gates → (x : List Bool)
      → edge_value nodes (read x) (edge_of edges i) ≡ value gates x i
