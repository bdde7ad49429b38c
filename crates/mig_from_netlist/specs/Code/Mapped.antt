-- Netlists and the literals of their signals.
use Rattle.std.specs.Prelude.{◌≡◌, ℕ, ◌+◌, ◌*◌, ◌<◌, Bool, List, map, length, Option, Some, None, slice_index_or}
use Rattle.blif_read.specs.Parts.{NetView}
use Rattle.blif_read.specs.Netlist.{IsNetlist}
use Rattle.blif_read.specs.Equations as equations
use Rattle.circuit.specs.SameAnswers.{SameAnswers}
use Rattle.mig.specs.Graphs.{GraphView, literal_value, Fits, IsGraph, IsAnswer}
use Rattle.mig.specs.Building.{BuilderView, limit}
use Rattle.mig.specs.Carried.{literal_at}

-- so many signals, of which the inputs alone have literals
pub record IsFirst (inputs size : ℕ) (literal_of : List (Option ℕ)) : Type 0 where
  pub sized : length literal_of ≡ size
  pub each : (s l : ℕ) → literal_at literal_of s ≡ Some l → (s < inputs) × (l ≡ 2 * (1 + s))

-- each literal of a signal has its value, whichever values fit the graph and the netlist
pub record IsMapped (net : NetView) (b : BuilderView) (literal_of : List (Option ℕ)) : Type 0 where
  pub same_inputs : b.inputs ≡ net.inputs
  pub size : length literal_of ≡ net.inputs + length net.defs
  pub there : (s l : ℕ) → literal_at literal_of s ≡ Some l → l < limit b
  pub right : (s l : ℕ) → literal_at literal_of s ≡ Some l → (word : List Bool) (v signals : ℕ → Bool)
      → Fits b.inputs b.nodes word v → equations.Fits net.inputs net.defs word signals
      → literal_value v l ≡ signals s
