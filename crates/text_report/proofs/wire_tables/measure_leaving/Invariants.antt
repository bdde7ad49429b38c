use Rattle.std.specs.Prelude.{zip, slice_index}
use Rattle.text_report.specs.Code.Sources.{row_left}
use Rattle.text_report.proofs.Keyed.{MostBelow}
use Rattle.text_report.proofs.wire_tables.measure_leaving.Given as goal

abbrev pub invariant-loop-n : goal.invariant-loop-n
invariant-loop-n l =
    MostBelow l.n (row_left l.sources) (λ wire. slice_index l.lengths wire.1) (zip l.shapes l.nets) l.longest
