use Rattle.std.proofs.Common.{◌≡◌, ◌++◌, map, drop}
use Rattle.sat_sweep.specs.Code.GateLiterals.{literal_of}
use Rattle.sat_sweep.proofs.literals.shown.Given as goal

abbrev pub invariant-loop-output : goal.invariant-loop-output
invariant-loop-output l =
    l.all.items ++ map (literal_of l.literals) (drop l.output-index l.outputs) ≡ map (literal_of l.literals) l.outputs
