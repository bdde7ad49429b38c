-- The walk from a signal, deep enough for every signal, and what the code keeps while it walks.
use Rattle.std.specs.Prelude.{◌≡◌, ℕ, suc, ◌<◌, List, length, Option, Some, None}
use Rattle.circuit.specs.PlainNets.{AreGates}
use Rattle.blif_read.specs.Parts.{NetView}
use Rattle.maj_mapping.specs.Code.MakerView.{MakerView}
use Rattle.maj_mapping.specs.Plan.{Mapping, gate_at, visit, signals}

-- a bound that is deep enough for every signal
abbrev pub deep : NetView → ℕ
deep net = suc (signals net)

-- the walk from signal s
abbrev pub walk : NetView → Mapping → ℕ → Mapping
walk net m s = visit net (deep net) m s

-- what the code has so far, as the plan has it
abbrev pub mapping : MakerView → List (Option ℕ) → Mapping
mapping maker gate_of = record { gates = maker.gates; gate_of = gate_of }

-- the gates are those of a net, each signal has a place in the map, each input its gate, and all gates of signals exist
pub record IsStanding (net : NetView) (maker : MakerView) (gate_of : List (Option ℕ)) : Type 0 where
  pub same : maker.inputs ≡ net.inputs
  pub good : AreGates net.inputs maker.gates
  pub sized : length gate_of ≡ signals net
  pub inputs_mapped : (s : ℕ) → s < net.inputs → gate_at gate_of s ≡ None → ⊥
  pub inside : (s g : ℕ) → gate_at gate_of s ≡ Some g → g < length maker.gates
