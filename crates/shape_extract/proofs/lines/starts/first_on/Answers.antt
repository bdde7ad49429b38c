use Rattle.shape_extract.proofs.Marked.{got_at}
use Rattle.shape_extract.proofs.LineStarts.{none_on_next, least_on, none_on}
use Rattle.shape_extract.proofs.lines.starts.first_on.Goals as goal

pub loop-n-preserved : goal.loop-n-preserved
loop-n-preserved c = none_on_next _ _ _ _ c.loop-n.invariant
    (got_at _ _ _ c.loop-n-test.true c.index-shapes-n.is) c.if-shape-layer.false

pub returns : goal.returns
returns c = none_on _ _ _ c.loop-n-test.false c.loop-n.invariant

pub returns-then-shape-layer : goal.returns-then-shape-layer
returns-then-shape-layer c = least_on _ _ _ _ c.loop-n.invariant
    (got_at _ _ _ c.loop-n-test.true c.index-shapes-n.is) c.if-shape-layer.true
