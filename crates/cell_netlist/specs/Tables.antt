-- What is counted of a netlist.
use Rattle.std.specs.Prelude.{◌≡◌, ℕ, ◌+◌, ◌<◌, nat_eq, List, length, Option, slice_index}
use Rattle.std.specs.List.{count_by}
use Rattle.circuit.specs.declared.gate.Gate.{Gate}
use Rattle.blif_read.specs.Parts.{NetView}
use Rattle.cell_netlist.specs.Kinds.{AreGatesOf}
use Rattle.cell_netlist.specs.Uses.{named}

-- the list tells how often each number below a bound stands among others
pub record AreCounts (counts : List ℕ) (bound : ℕ) (numbers : List ℕ) : Type 0 where
  pub long : length counts ≡ bound
  pub each : (s : ℕ) → s < bound → slice_index counts s ≡ count_by (nat_eq s) numbers

-- the second list tells one more at a number, where it has that place
pub record IsBumped (old new : List ℕ) (x : ℕ) : Type 0 where
  pub long : length new ≡ length old
  pub at : x < length old → slice_index new x ≡ slice_index old x + 1
  pub other : (s : ℕ) → (s ≡ x → ⊥) → slice_index new s ≡ slice_index old s

-- the gates of a netlist, the uses of its signals, and how often each is an output
pub record IsTableOf (net : NetView) (gates : List (Option Gate)) (used shown : List ℕ) : Type 0 where
  pub gates_are : AreGatesOf net.defs gates
  pub used_are : AreCounts used (net.inputs + length net.defs) (named net.defs)
  pub shown_are : AreCounts shown (net.inputs + length net.defs) net.outputs
