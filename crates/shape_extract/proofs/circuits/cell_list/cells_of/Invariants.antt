use Rattle.shape_extract.proofs.CellLists.{CellsBelow}
use Rattle.shape_extract.proofs.circuits.cell_list.cells_of.Given as goal

abbrev pub invariant-loop-frame : goal.invariant-loop-frame
invariant-loop-frame l = CellsBelow l.frame-index l.fn.tables.flat.now l.fn.tables.frames.now l.cells.items
