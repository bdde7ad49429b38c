use Rattle.text_report.proofs.SourceRows.{RowsBelow}
use Rattle.text_report.proofs.sources.write_rows.Given as goal

abbrev pub invariant-loop-n : goal.invariant-loop-n
invariant-loop-n l = RowsBelow l.n l.fn.flat.shapes l.fn.nets l.rows
