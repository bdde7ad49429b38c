use Rattle.text_report.proofs.Sided.{sides_more, sides_all}
use Rattle.geom.proofs.Filing.{read_at}
use Rattle.text_report.proofs.rules.known.Goals as goal

pub loop-shape-preserved : goal.loop-shape-preserved
loop-shape-preserved c = sides_more c.loop-shape.shape-index c.args.shapes.now c.shape-item.result
    c.loop-shape.invariant (read_at _ _ _ c.loop-shape-test.true c.shape-item.is) c.known.ensures

pub returns : goal.returns
returns c = sides_all c.loop-shape.shape-index c.args.shapes.now c.loop-shape-test.false c.loop-shape.invariant
