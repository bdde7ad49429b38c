use Rattle.std.proofs.Common.{◌≡◌, map, take, false}
use Rattle.std.specs.Prelude.{slice_index_or}
use Rattle.gds_read.specs.Code.Graphs.{some_target}
use Rattle.gds_read.proofs.chains.above.Given as goal

abbrev pub invariant-loop-targets : goal.invariant-loop-targets
invariant-loop-targets l = l.above.items ≡ map (λ ns. some_target (λ n. slice_index_or l.marks n false) ns)
    (take l.targets-index l.graph)
