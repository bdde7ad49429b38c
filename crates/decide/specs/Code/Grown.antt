-- What making functions does to a diagram.
use Rattle.std.specs.Prelude.{◌≡◌, ◌⊎◌, ℕ, [], ◌∷◌, ◌++◌, slice_get, Some, ◌<◌, ◌≤◌, Bool, false, cond, List, length}
use Rattle.std.specs.Prelude.{slice_index_or}
use Rattle.decide.specs.declared.edge.Edge.{Edge}
use Rattle.decide.specs.declared.edge.Node.{Node}
use Rattle.decide.specs.declared.refusal.DecideRefusal.{DecideRefusal}
use Rattle.decide.specs.declared.refusal.DecideRefusal.TheVariants.{TooMany, Memory}
use Rattle.decide.specs.Code.Diagrams.{node_at, level_of, edge_value}

-- the old nodes stay where they are
pub record Grows (old new : List Node) : Type 0 where
  pub longer : length old ≤ length new
  pub same : (i : ℕ) → i < length old → node_at new i ≡ node_at old i

-- the node is there already, or goes last
abbrev pub Adds : List Node → Node → List Node → Type 0
Adds old t new = (new ≡ old) ⊎ ((new ≡ old ++ t ∷ []) × ((i : ℕ) → slice_get old i ≡ Some t → ⊥))

-- the edge is one of the diagram, reads no level before the bound, and has the values of the function
pub record Represents (nodes : List Node) (bound : ℕ) (f : List Bool → Bool) (e : Edge) : Type 0 where
  pub inside : e.node < length nodes
  pub from : bound ≤ level_of nodes e.node
  pub value : (x : List Bool) → edge_value nodes x e ≡ f x

-- the choice between two functions by the variable at a level
abbrev pub choice : List Node → ℕ → Edge → Edge → List Bool → Bool
choice nodes level low high x =
    cond (slice_index_or x level false) (edge_value nodes x high) (edge_value nodes x low)

-- a refusal for the number of nodes comes at 1,000,001 of them beside node 0
abbrev pub IsFull : List Node → DecideRefusal → Type 0
IsFull nodes (TooMany functions) = (functions ≡ 1000001) × (length nodes ≡ 1000002)
IsFull nodes Memory = Unit {0}
