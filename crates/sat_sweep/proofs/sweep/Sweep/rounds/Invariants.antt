use Rattle.mig.specs.Building.{Grown}
use Rattle.sat_sweep.proofs.sweep.Sweep.rounds.Given as goal

abbrev pub invariant-loop-conflicts : goal.invariant-loop-conflicts
invariant-loop-conflicts l = Grown l.fn.merged l.merged
