use Rattle.std.proofs.Common.{◌≡◌, [], ◌∷◌, ◌++◌}
use Rattle.circuit_extracted.proofs.Evaluated.{values_read, values_all}
use Rattle.circuit_extracted.proofs.evaluation.values.Goals as goal

pub loop-cell-preserved : goal.loop-cell-preserved
loop-cell-preserved c =
    let longer : c.push.new.self.items ≡ c.loop-cell.values.items ++ (c.cell_value.result ∷ []) =
    c.in_ok-push.ensures.items in
    rw longer (values_read c.args.cells.now c.args.word.now c.requires c.loop-cell.cell-index c.loop-cell.values.items
    c.cell_value.result c.loop-cell.invariant _ c.loop-cell-test.true
    (rw c.deref.ensures.value at c.cell_value.ensures))

pub returns : goal.returns
returns c = values_all c.args.cells.now c.args.word.now c.loop-cell.cell-index c.loop-cell.values.items
    c.loop-cell-test.false c.loop-cell.invariant
