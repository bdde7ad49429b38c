use Rattle.text_answers.proofs.InLanes.{AreLanes}
use Rattle.text_answers.proofs.lanes.put_values.Given as goal

abbrev pub invariant-loop-cell : goal.invariant-loop-cell
invariant-loop-cell l = AreLanes l.cell-index l.cells l.words l.values.items
