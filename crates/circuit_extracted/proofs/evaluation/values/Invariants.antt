use Rattle.circuit_extracted.proofs.Evaluated.{ValuesBelow}
use Rattle.circuit_extracted.proofs.evaluation.values.Given as goal

abbrev pub invariant-loop-cell : goal.invariant-loop-cell
invariant-loop-cell l = ValuesBelow l.cell-index l.cells l.word l.values.items
