use Rattle.std.proofs.Common.{◌≡◌, ◌++◌, drop}
use Rattle.circuit_extracted.specs.Answers.{values_at}
use Rattle.circuit.specs.Gates.{valuation}
use Rattle.circuit_extracted.proofs.evaluation.shown.Given as goal

abbrev pub invariant-loop-source : goal.invariant-loop-source
invariant-loop-source l = l.word ++ values_at (drop l.source-index l.outputs)
    (valuation l.values) ≡ values_at l.outputs (valuation l.values)
