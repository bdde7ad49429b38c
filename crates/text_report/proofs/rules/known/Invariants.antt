use Rattle.text_report.proofs.Sided.{HaveSidesTo}
use Rattle.text_report.proofs.rules.known.Given as goal

abbrev pub invariant-loop-shape : goal.invariant-loop-shape
invariant-loop-shape l = HaveSidesTo l.shape-index l.shapes
