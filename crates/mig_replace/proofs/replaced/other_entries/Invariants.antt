use Rattle.mig_replace.specs.Code.Cones.{AreAllFound}
use Rattle.mig_replace.proofs.replaced.other_entries.Given as goal

abbrev pub invariant-loop-other : goal.invariant-loop-other
invariant-loop-other l = AreAllFound l.graph l.found l.leaves l.entries.items
