-- Uses of signals, and which outputs are names: a cell feeds as many pins as its kind has outputs, and an output of the
-- netlist is one more name for the buffer that shows it.
use Rattle.std.specs.Prelude.{ℕ, ◌+◌, ◌-◌, Bool, true, false, cond, not, ◌&&◌, ◌||◌, ◌==◌, nat_lt, nat_le, nat_eq}
use Rattle.std.specs.Prelude.{List, take, Option, Some, None, slice_index_or}
use Rattle.std.specs.List.{flat_map, count_by, list_any}
use Rattle.circuit.specs.declared.gate.Gate.{Gate}
use Rattle.circuit.specs.declared.gate.Gate.TheVariants.{Buf}
use Rattle.blif_read.specs.Parts.{NetView}
use Rattle.blif_read.specs.declared.netlist.Def.{Def}

-- a netlist, the gates of its definitions, and whether a splitter may have three outputs
pub record CellView : Type 0 where
  pub net : NetView
  pub gates : List (Option Gate)
  pub three : Bool

-- a netlist with the gates of its definitions
abbrev pub with_gates : NetView → List (Option Gate) → Bool → CellView
with_gates net gates three = record { net = net; gates = gates; three = three }

-- the signals that definitions name, each as often as it is named
abbrev pub named : List Def → List ℕ
named defs = flat_map (λ (def : Def). def.inputs) defs

-- the uses of a signal: how often definitions name it
abbrev pub uses : CellView → ℕ → ℕ
uses d s = count_by (nat_eq s) (named d.net.defs)

-- the signal is an input
abbrev pub is_input : CellView → ℕ → Bool
is_input d s = nat_lt s d.net.inputs

-- the gate of a signal; none of an input
abbrev pub gate_of : CellView → ℕ → Option Gate
gate_of d s = cond (is_input d s) None (slice_index_or d.gates (s - d.net.inputs) None)

-- the gate is a buffer
abbrev pub is_buffer : Option Gate → Bool
is_buffer (Some (Buf x)) = true
is_buffer gate = false

-- the gate is a buffer of a buffer
abbrev pub is_buffer_of_buffer : CellView → Option Gate → Bool
is_buffer_of_buffer d (Some (Buf x)) = is_buffer (gate_of d x)
is_buffer_of_buffer d gate = false

-- the signal is a name: a buffer of a buffer that is an output once, and that no definition names
abbrev pub is_name : CellView → ℕ → Bool
is_name d s =
    is_buffer_of_buffer d (gate_of d s) && (count_by (nat_eq s) d.net.outputs == 1) && (uses d s == 0)

-- how many uses a cell may have: a buffer one, or as many as a splitter has outputs, and one of an input none too;
-- each other cell one
abbrev pub may_have : CellView → Gate → ℕ → Bool
may_have d (Buf x) n = (nat_le 1 n && nat_le n (cond d.three 3 2)) || (is_input d x && n == 0)
may_have d gate n = n == 1

-- one of the signals is an input that is among others
abbrev pub shares_input : CellView → List ℕ → List ℕ → Bool
shares_input d signals others = list_any (λ s. is_input d s && list_any (nat_eq s) others) signals

-- definition j, of this gate, is a name or has as many uses as it may, and names no input that an earlier one names
abbrev pub is_used_well : CellView → ℕ → Def → Gate → Bool
is_used_well d j def gate =
    (is_name d (d.net.inputs + j) || may_have d gate (uses d (d.net.inputs + j)))
    && not (shares_input d def.inputs (named (take j d.net.defs)))
