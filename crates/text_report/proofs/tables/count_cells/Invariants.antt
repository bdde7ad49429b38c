use Rattle.std.specs.Prelude.{Some}
use Rattle.text_report.proofs.Keyed.{CountsBelow}
use Rattle.text_report.proofs.tables.count_cells.Given as goal

abbrev pub invariant-loop-cell : goal.invariant-loop-cell
invariant-loop-cell l = CountsBelow l.cell-index (λ cell. Some cell.row) l.cells l.counts
