use Rattle.std.proofs.Common.{arith}
use Rattle.shape_extract.proofs.Marked.{below_next}
use Rattle.shape_extract.proofs.rules.cell_pins.all_below.Goals as goal
use Rattle.shape_extract.proofs.rules.cell_pins.all_below.Goals.{else-shape-layer-via-then-shape-layer+else-from-n}
use Rattle.shape_extract.proofs.rules.cell_pins.all_below.Goals.{else-shape-layer-via-else-shape-layer}

pub loop-number-preserved : goal.loop-number-preserved
loop-number-preserved c = elim c.else-shape-layer.branch [
  | else-shape-layer-via-then-shape-layer+else-from-n w ↦ below_next _ _ _ _ _ _ c.loop-number.invariant
      c.index-shapes-number.is (λ of. omega (arith, w.from.ensures, w.if-from-n.false))
  | else-shape-layer-via-else-shape-layer w ↦ below_next _ _ _ _ _ _ c.loop-number.invariant c.index-shapes-number.is
      (λ of. absurd (w.if-shape-layer.false of))
]
