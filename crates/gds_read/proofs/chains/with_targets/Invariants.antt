use Rattle.std.proofs.Common.{◌≡◌, map, take, true}
use Rattle.gds_read.specs.Code.Graphs.{some_target}
use Rattle.gds_read.proofs.chains.with_targets.Given as goal

abbrev pub invariant-loop-targets : goal.invariant-loop-targets
invariant-loop-targets l = l.marks.items ≡ map (λ ns. some_target (λ n. true) ns) (take l.targets-index l.graph)
