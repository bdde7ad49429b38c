use Rattle.std.proofs.Common.{◌≡◌, drop, false}
use Rattle.std.specs.Prelude.{slice_index_or}
use Rattle.gds_read.specs.Code.Graphs.{some_target}
use Rattle.gds_read.proofs.chains.some_marked.Given as goal

abbrev pub invariant-loop-target : goal.invariant-loop-target
invariant-loop-target l = some_target (λ n. slice_index_or l.marks n false)
    (drop l.target-index l.targets) ≡ some_target (λ n. slice_index_or l.marks n false) l.targets
