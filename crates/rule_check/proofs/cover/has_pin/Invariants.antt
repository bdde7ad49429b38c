use Rattle.rule_check.specs.Code.Cover.{is_at_pin_of}
use Rattle.rule_check.proofs.Geometry.{NoneAt}
use Rattle.rule_check.proofs.cover.has_pin.Given as goal

abbrev pub invariant-loop-number : goal.invariant-loop-number
invariant-loop-number l = NoneAt (is_at_pin_of l.metal l.frame) l.kinds l.numbers l.number-index
