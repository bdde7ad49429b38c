use Rattle.shape_extract.proofs.MarkTable.{MarksTo}
use Rattle.shape_extract.proofs.tables.mark_table.mark_table.Given as goal

abbrev pub invariant-loop-place : goal.invariant-loop-place
invariant-loop-place l = MarksTo l.place l.fn.flat.shapes l.fn.flat.labels l.marking.items
