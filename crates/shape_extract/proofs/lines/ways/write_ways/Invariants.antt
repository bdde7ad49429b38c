use Rattle.shape_extract.specs.Code.Ways.{AreWaysBelow}
use Rattle.shape_extract.proofs.lines.ways.write_ways.Given as goal

abbrev pub invariant-loop-number : goal.invariant-loop-number
invariant-loop-number l = AreWaysBelow l.number-index l.shapes l.before l.order l.ways
