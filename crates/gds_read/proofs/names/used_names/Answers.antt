use Rattle.gds_read.specs.Code.Texts.{texts}
use Rattle.gds_read.proofs.Judged.{used_more}
use Rattle.gds_read.proofs.names.used_names.Goals as goal

pub loop-outline-preserved : goal.loop-outline-preserved
loop-outline-preserved c =
    used_more c.args.outlines.now c.loop-outline.outline-index c.outline-item.result
    (texts c.loop-outline.used.keys) _ c.loop-outline-test.true c.outline-item.is c.loop-outline.invariant
    (λ t. rw c.as_slice.ensures at (c.in_ok-add_uses.ensures t))
