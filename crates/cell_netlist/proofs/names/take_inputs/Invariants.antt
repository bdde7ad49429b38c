use Rattle.std.proofs.Common.{◌≡◌, drop}
use Rattle.cell_netlist.specs.Code.Tables.{take_all}
use Rattle.cell_netlist.proofs.names.take_inputs.Given as goal

abbrev pub invariant-loop-signal : goal.invariant-loop-signal
invariant-loop-signal l = take_all l.taken (drop l.signal-index l.signals) ≡ take_all l.fn.taken l.signals
