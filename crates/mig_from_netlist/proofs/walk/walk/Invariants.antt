use Rattle.mig_from_netlist.specs.Code.Mapped.{IsMapped}
use Rattle.mig_from_netlist.proofs.walk.walk.Given as goal

abbrev pub invariant-loop-signal : goal.invariant-loop-signal
invariant-loop-signal l = IsMapped l.net l.builder l.literal_of
