use Rattle.mig_rewrite.specs.Code.Cones.{HasFirst}
use Rattle.mig_rewrite.proofs.remap.first_found.Given as goal

abbrev pub invariant-loop-input : goal.invariant-loop-input
invariant-loop-input l = HasFirst l.input l.found.items
