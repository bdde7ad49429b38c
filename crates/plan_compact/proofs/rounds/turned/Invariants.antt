use Rattle.std.proofs.Common.{IfSome}
use Rattle.mig_from_netlist.specs.Passes.{IsGraphOf}
use Rattle.plan_compact.proofs.rounds.turned.Given as goal

abbrev pub invariant-loop-number : goal.invariant-loop-number
invariant-loop-number l = record {
  best : IsGraphOf l.net l.so_far.best;
  next : IfSome l.so_far.next (IsGraphOf l.net);
}
