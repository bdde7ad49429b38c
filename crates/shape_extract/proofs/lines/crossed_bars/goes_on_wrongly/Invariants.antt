use Rattle.shape_extract.proofs.BarSides.{GoWellBelow}
use Rattle.shape_extract.proofs.lines.crossed_bars.goes_on_wrongly.Given as goal

abbrev pub invariant-loop-number : goal.invariant-loop-number
invariant-loop-number l = GoWellBelow l.shapes l.contacts l.a l.before l.bar l.number-index
