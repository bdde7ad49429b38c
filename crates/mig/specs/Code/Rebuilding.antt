-- A literal for each node of a graph that is made anew.
use Rattle.std.specs.Prelude.{◌≡◌, ℕ, ◌/◌, ◌%◌, ◌<◌, ◌==◌, cond, Bool, true, false, List, length, slice_index_or}
use Rattle.mig.specs.Graphs.{GraphView, turned}
use Rattle.mig.specs.Building.{BuilderView}
use Rattle.mig.specs.Carried.{Shows}

-- a literal for each marked node so far
pub record CarriesGraph (graph : GraphView) (marks : List Bool) (b : BuilderView) (found : List ℕ) : Type 0 where
  pub same_inputs : b.inputs ≡ graph.inputs
  pub each : (i : ℕ) → i < length found → slice_index_or marks i false ≡ true
      → Shows graph b i (slice_index_or found i 0)

-- the literal for a literal of the graph, by those for its nodes
abbrev pub carried : List ℕ → ℕ → ℕ
carried found l = cond (l % 2 == 1) (turned (slice_index_or found (l / 2) 0)) (slice_index_or found (l / 2) 0)
