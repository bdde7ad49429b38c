use Rattle.std.proofs.Common.{take}
use Rattle.mig_replace.specs.Code.Cones.{AreFound}
use Rattle.mig_replace.proofs.replaced.leaf_literals.Given as goal

abbrev pub invariant-loop-leaf : goal.invariant-loop-leaf
invariant-loop-leaf l = AreFound l.found (take l.leaf-index l.leaves) l.literals.items
