use Rattle.std.proofs.Common.{◌≡◌, ◌++◌, map, drop}
use Rattle.circuit.specs.Gates.{valuation}
use Rattle.blif_read.proofs.values.shown.Given as goal

abbrev pub invariant-loop-output : goal.invariant-loop-output
invariant-loop-output l = l.word ++ map (valuation l.values) (drop l.output-index l.outputs) ≡ map
    (valuation l.values) l.outputs
