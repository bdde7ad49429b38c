use Rattle.mig.specs.Building.{BuilderView, AllThere}
use Rattle.mig_replace.specs.Code.Cones.{AreEntries}
use Rattle.mig_replace.proofs.run.first_entries.Given as goal

abbrev pub invariant-loop-place : goal.invariant-loop-place
invariant-loop-place l = (b : BuilderView) → AllThere b l.leaves → AreEntries b l.leaves l.entries.items
