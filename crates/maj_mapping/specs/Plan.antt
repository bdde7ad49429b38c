-- The plan of the mapping, which is technology mapping to a majority-inverter graph by fixed recipes: signals that the
-- outputs need, in the order in which a depth-first walk leaves them.
use Rattle.std.specs.Prelude.{ℕ, zero, suc, ◌+◌, ◌-◌, true, false, ltb, List, [], ◌∷◌, ◌++◌, map, length}
use Rattle.std.specs.Prelude.{replicate, slice_get, slice_index_or, slice_set, Option, Some, None, unwrap_or}
use Rattle.std.specs.List.{fold}
use Rattle.circuit.specs.declared.gate.Gate.{Gate}
use Rattle.circuit.specs.declared.gate.Gate.TheVariants.{Input, Zero, One}
use Rattle.blif_read.specs.declared.netlist.Def.{Def}
use Rattle.blif_read.specs.Parts.{NetView}
use Rattle.circuit.specs.PlainNets.{PlainView}
use Rattle.maj_mapping.specs.Covers.{define}

-- the gates so far, and for each signal its gate, if it has one
pub record Mapping : Type 0 where
  pub gates : List Gate
  pub gate_of : List (Option ℕ)

-- the gate of a signal, if it has one
abbrev pub gate_at : List (Option ℕ) → ℕ → Option ℕ
gate_at gate_of s = slice_index_or gate_of s None

-- the gate of a signal that has one, and else 0
abbrev pub gate_or : List (Option ℕ) → ℕ → ℕ
gate_or gate_of s = unwrap_or (gate_at gate_of s) 0

-- the gates of k inputs from number i on
abbrev pub input_gates : ℕ → ℕ → List Gate
input_gates i zero = []
input_gates i (suc k) = Input i ∷ input_gates (suc i) k

-- and for each of these inputs its gate
abbrev pub input_names : ℕ → ℕ → List (Option ℕ)
input_names i zero = []
input_names i (suc k) = Some i ∷ input_names (suc i) k

-- the inputs and the two constants
abbrev pub first_gates : ℕ → List Gate
first_gates n = input_gates 0 n ++ Zero ∷ One ∷ []

-- each input has its gate, and no defined signal has one
abbrev pub first_map : ℕ → ℕ → List (Option ℕ)
first_map n defs = input_names 0 n ++ replicate defs None

-- before the first walk
unfoldable pub start : NetView → Mapping
start net = record { gates = first_gates net.inputs; gate_of = first_map net.inputs (length net.defs) }

-- gives signal s the gate of its definition
unfoldable pub leave_by : NetView → Mapping → ℕ → Option Def → Mapping
leave_by net m s None = m
leave_by net m s (Some d) =
    let made = define net.inputs m.gates (map (gate_or m.gate_of) d.inputs) d in
    record { gates = made.gates; gate_of = slice_set m.gate_of s (Some made.at) }

-- the definition of a signal, which inputs have none of
abbrev pub def_of : NetView → ℕ → Option Def
def_of net s = elim (ltb s net.inputs) [ true ↦ None | false ↦ slice_get net.defs (s - net.inputs) ]

-- the signals that it reads
abbrev pub inputs_by : Option Def → List ℕ
inputs_by None = []
inputs_by (Some d) = d.inputs

-- the walk leaves signal s
abbrev pub leave : NetView → Mapping → ℕ → Mapping
leave net m s = leave_by net m s (def_of net s)

-- the walk from signal s: nothing where it has its gate, and else its definition's inputs in order, and then itself.
-- k bounds how deep the walk goes
unfoldable pub visit : NetView → ℕ → Mapping → ℕ → Mapping
visit net zero m s = m
visit net (suc k) m s =
    elim (gate_at m.gate_of s) [ Some g ↦ m | None ↦ leave net (fold (visit net k) m (inputs_by (def_of net s))) s ]

-- how many signals there are: inputs, and then the defined ones
abbrev pub signals : NetView → ℕ
signals net = net.inputs + length net.defs

-- the walks from all outputs in order
unfoldable pub mapped : NetView → Mapping
mapped net = fold (visit net (suc (signals net))) (start net) net.outputs

-- the net of gates of a netlist
unfoldable pub map_net : NetView → PlainView
map_net net =
    let m = mapped net in
    record { inputs = net.inputs; gates = m.gates; outputs = map (gate_or m.gate_of) net.outputs }
