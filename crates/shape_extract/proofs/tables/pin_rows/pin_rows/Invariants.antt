use Rattle.shape_extract.proofs.RowPins.{RowsBelow}
use Rattle.shape_extract.proofs.tables.pin_rows.pin_rows.Given as goal

abbrev pub invariant-loop-p : goal.invariant-loop-p
invariant-loop-p l = RowsBelow l.p l.shapes l.rows.items
