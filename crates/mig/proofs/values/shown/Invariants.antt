use Rattle.std.proofs.Common.{◌≡◌, ◌++◌, map, drop}
use Rattle.circuit.specs.Gates.{valuation}
use Rattle.mig.specs.Graphs.{literal_value}
use Rattle.mig.proofs.values.shown.Given as goal

abbrev pub invariant-loop-output : goal.invariant-loop-output
invariant-loop-output l = l.word ++ map (literal_value (valuation l.values)) (drop l.output-index l.outputs) ≡ map
    (literal_value (valuation l.values)) l.outputs
