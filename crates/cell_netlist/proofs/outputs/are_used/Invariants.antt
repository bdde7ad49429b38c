use Rattle.std.proofs.Common.{◌<◌, ℕ}
use Rattle.cell_netlist.specs.Uses.{uses}
use Rattle.cell_netlist.specs.Code.Tabled.{view_of}
use Rattle.cell_netlist.proofs.outputs.are_used.Given as goal

abbrev pub invariant-loop-input : goal.invariant-loop-input
invariant-loop-input l = (i : ℕ) → i < l.input → 0 < uses (view_of l.fn.tabled) i
