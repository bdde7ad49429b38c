use Rattle.mig.specs.Building.{Grown}
use Rattle.mig_replace.specs.Code.Cones.{AreEntries}
use Rattle.mig_replace.proofs.run.run.Given as goal

abbrev pub invariant-loop-one : goal.invariant-loop-one
invariant-loop-one l =
    record { grown : Grown l.fn.builder l.builder; entries : AreEntries l.builder l.leaves l.entries.items }
