use Rattle.rule_check.proofs.Geometry.{metal_lower}
use Rattle.rule_check.proofs.enclosure.is_bare.Goals as goal

pub is_covered-requires-clause-planar : goal.is_covered-requires-clause-planar
is_covered-requires-clause-planar c = λ s h. metal_lower s h

pub is_covered-requires-2-clause-planar : goal.is_covered-requires-2-clause-planar
is_covered-requires-2-clause-planar c = λ s h. h
