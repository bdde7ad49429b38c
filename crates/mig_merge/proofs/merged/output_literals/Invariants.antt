use Rattle.std.proofs.Common.{◌≡◌, ◌++◌, map, drop}
use Rattle.mig_replace.specs.Code.Cones.{carried}
use Rattle.mig_merge.proofs.merged.output_literals.Given as goal

abbrev pub invariant-loop-output : goal.invariant-loop-output
invariant-loop-output l = l.literals.items ++ map (carried l.found) (drop l.output-index l.outputs) ≡ map
    (carried l.found) l.outputs
