use Rattle.std.proofs.Common.{◌≡◌, drop}
use Rattle.cell_netlist.specs.Code.Tables.{shares}
use Rattle.cell_netlist.proofs.names.shares.Given as goal

abbrev pub invariant-loop-signal : goal.invariant-loop-signal
invariant-loop-signal l = shares l.taken (drop l.signal-index l.signals) ≡ shares l.taken l.signals
