use Rattle.geom.specs.Code.Filed.{rects_in}
use Rattle.geom.proofs.Arranging.{AreRectsTo}
use Rattle.geom.proofs.index.spots.narrow_at.Given as goal

abbrev pub invariant-loop-number : goal.invariant-loop-number
invariant-loop-number l = AreRectsTo l.shapes l.numbers l.number-index (rects_in l.spots.items)
