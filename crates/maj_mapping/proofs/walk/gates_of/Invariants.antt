use Rattle.std.proofs.Common.{◌≡◌, ◌++◌, map, drop}
use Rattle.maj_mapping.specs.Plan.{gate_or}
use Rattle.maj_mapping.proofs.walk.gates_of.Given as goal

abbrev pub invariant-loop-signal : goal.invariant-loop-signal
invariant-loop-signal l = l.gates.items ++ map (gate_or l.gate_of) (drop l.signal-index l.signals) ≡ map
    (gate_or l.gate_of) l.signals
