use Rattle.rule_check.specs.Code.Cover.{trespasses_by}
use Rattle.rule_check.proofs.Geometry.{NoneAt}
use Rattle.rule_check.proofs.cover.first_trespass.Given as goal

abbrev pub invariant-loop-number : goal.invariant-loop-number
invariant-loop-number l = NoneAt (trespasses_by l.kinds l.pins l.s) l.kinds l.frames l.number-index
