use Rattle.std.proofs.Common.{List, ℕ, false, ap, ◌∙◌}
use Rattle.std.specs.Prelude.{slice_index_or}
use Rattle.gds_read.specs.Code.Graphs.{some_target}
use Rattle.gds_read.proofs.Items.{made_more}
use Rattle.gds_read.proofs.chains.above.Goals as goal

pub loop-targets-preserved : goal.loop-targets-preserved
loop-targets-preserved c =
    made_more (λ ns. some_target (λ n. slice_index_or c.args.marks.now n false) ns) c.args.graph.now
    c.loop-targets.targets-index c.targets-item.result c.loop-targets.above.items _ c.some_marked.result
    c.loop-targets-test.true c.targets-item.is
    (c.some_marked.ensures ∙ ap (λ (ns : List ℕ). some_target (λ n. slice_index_or c.args.marks.now n false) ns)
    c.as_slice.ensures) c.in_ok-push.ensures.items c.loop-targets.invariant
