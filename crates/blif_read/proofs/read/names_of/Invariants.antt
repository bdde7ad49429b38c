use Rattle.std.proofs.Common.{◌≡◌, ◌++◌, map, drop}
use Rattle.blif_read.specs.Faults.{name_of}
use Rattle.blif_read.proofs.read.names_of.Given as goal

abbrev pub invariant-loop-signal : goal.invariant-loop-signal
invariant-loop-signal l = l.list ++ map (name_of l.names.keys) (drop l.signal-index l.signals) ≡ map
    (name_of l.names.keys) l.signals
