use Rattle.rule_check.specs.Code.Bands.{collide_across}
use Rattle.rule_check.proofs.Geometry.{NoneAt}
use Rattle.rule_check.proofs.frames.any_across.Given as goal

abbrev pub invariant-loop-number : goal.invariant-loop-number
invariant-loop-number l = NoneAt (λ band. collide_across l.frame band.rect) l.bands l.numbers l.number-index
