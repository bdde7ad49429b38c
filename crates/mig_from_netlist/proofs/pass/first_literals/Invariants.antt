use Rattle.std.proofs.Common.{◌+◌}
use Rattle.mig_from_netlist.specs.Code.Mapped.{IsFirst}
use Rattle.mig_from_netlist.proofs.pass.first_literals.Given as goal

abbrev pub invariant-loop-input : goal.invariant-loop-input
invariant-loop-input l = IsFirst l.inputs l.input l.literal_of

abbrev pub invariant-loop-def : goal.invariant-loop-def
invariant-loop-def l = IsFirst l.inputs (l.inputs + l._def) l.literal_of
