use Rattle.std.proofs.Common.{List, ℕ, true, ap, ◌∙◌}
use Rattle.gds_read.specs.Code.Graphs.{some_target}
use Rattle.gds_read.proofs.Items.{made_more}
use Rattle.gds_read.proofs.chains.with_targets.Goals as goal

pub loop-targets-preserved : goal.loop-targets-preserved
loop-targets-preserved c =
    made_more (λ ns. some_target (λ n. true) ns) c.args.graph.now c.loop-targets.targets-index c.targets-item.result
    c.loop-targets.marks.items _ c.has_targets.result c.loop-targets-test.true c.targets-item.is
    (c.has_targets.ensures ∙ ap (λ (ns : List ℕ). some_target (λ n. true) ns) c.as_slice.ensures)
    c.in_ok-push.ensures.items c.loop-targets.invariant
