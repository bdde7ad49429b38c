use Rattle.rule_check.proofs.Geometry.{HaveSidesTo}
use Rattle.rule_check.proofs.sheet.known.Given as goal

abbrev pub invariant-loop-place : goal.invariant-loop-place
invariant-loop-place l = HaveSidesTo l.place l.kinds
