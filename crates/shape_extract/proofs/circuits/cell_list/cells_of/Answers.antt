use Rattle.std.proofs.Common.{arith}
use Rattle.shape_extract.proofs.CellLists.{cells_more, cells_all}
use Rattle.shape_extract.proofs.circuits.cell_list.cells_of.Goals as goal

pub loop-frame-preserved : goal.loop-frame-preserved
loop-frame-preserved c = rw c.in_ok-push.ensures.items
    (cells_more _ _ _ _ c.in_ok-cell_of.field-0 c.loop-frame.invariant c.in_ok-cell_of.ensures)

pub returns : goal.returns
returns c = rw c.from_vec.ensures
    (cells_all _ _ c.loop-frame.frame-index _
    (omega (arith, c.loop-frame-test.false, c.loop-frame.auto.frame-index-end)) c.loop-frame.invariant)
