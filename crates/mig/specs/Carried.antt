-- Literals of a graph that grows, and the nodes and signals whose values they have.
use Rattle.std.specs.Prelude.{◌≡◌, ℕ, ◌<◌, Bool, List, map, Option, Some, None, slice_index_or}
use Rattle.mig.specs.Graphs.{GraphView, Fits, literal_value}
use Rattle.mig.specs.Building.{BuilderView, limit}

-- these values of nodes fit the graph at a word
abbrev pub fits_graph : GraphView → List Bool → (ℕ → Bool) → Type 0
fits_graph graph word v = Fits graph.inputs graph.nodes word v

-- the literal has the value of node i of the graph, at each word
pub record Shows (graph : GraphView) (b : BuilderView) (i literal : ℕ) : Type 0 where
  pub below : literal < limit b
  pub same : (word : List Bool) (v w : ℕ → Bool) → fits_graph graph word v → Fits b.inputs b.nodes word w
      → literal_value w literal ≡ v i

-- the literal of a node or signal, if it has one
abbrev pub literal_at : List (Option ℕ) → ℕ → Option ℕ
literal_at found i = slice_index_or found i None

-- the literals of nodes or signals that have them
abbrev pub AreLiterals : List (Option ℕ) → List ℕ → List ℕ → Type 0
AreLiterals found numbers literals = map Some literals ≡ map (literal_at found) numbers
