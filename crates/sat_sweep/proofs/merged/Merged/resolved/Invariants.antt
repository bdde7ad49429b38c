use Rattle.sat_sweep.specs.Code.Merging.{StandsFor}
use Rattle.sat_sweep.proofs.merged.Merged.resolved.Given as goal

abbrev pub invariant-loop : goal.invariant-loop
invariant-loop l = StandsFor l.self-inside.builder l.literal l.now
