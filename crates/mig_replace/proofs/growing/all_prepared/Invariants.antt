use Rattle.mig.specs.Building.{Grown}
use Rattle.mig_replace.proofs.growing.all_prepared.Given as goal

abbrev pub invariant-loop-turn : goal.invariant-loop-turn
invariant-loop-turn g l = Grown l.fn.builder l.builder
