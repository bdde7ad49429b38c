use Rattle.mig.specs.Building.{Grown}
use Rattle.sat_sweep.proofs.sweep.Sweep.sweep_nodes.Given as goal

abbrev pub invariant-loop-node : goal.invariant-loop-node
invariant-loop-node l = Grown l.fn.merged l.merged
