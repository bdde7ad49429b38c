use Rattle.std.specs.Prelude.{zip}
use Rattle.text_report.specs.Code.Sources.{row_left}
use Rattle.text_report.proofs.Keyed.{CountsBelow}
use Rattle.text_report.proofs.wire_tables.count_leaving.Given as goal

abbrev pub invariant-loop-n : goal.invariant-loop-n
invariant-loop-n l = CountsBelow l.n (row_left l.sources) (zip l.shapes l.nets) l.counts
