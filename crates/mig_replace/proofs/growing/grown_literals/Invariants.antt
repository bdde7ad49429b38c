use Rattle.std.proofs.Common.{◌≡◌, ◌+◌, length}
use Rattle.mig_replace.specs.Code.Cones.{Carries}
use Rattle.mig_replace.proofs.growing.grown_literals.Given as goal

abbrev pub invariant-loop-number : goal.invariant-loop-number
invariant-loop-number g l = record {
  size : length l.found.items ≡ 1 + l.graph.inputs + l.number;
  carries : Carries l.graph l.builder l.found.items;
}
