use Rattle.std.proofs.Common.{◌≡◌, take}
use Rattle.std.specs.Prelude.{zip, map, filter, slice_index}
use Rattle.text_report.specs.Wires.{greatest}
use Rattle.text_report.specs.Code.Sources.{is_some_row, row_left}
use Rattle.text_report.proofs.wire_tables.longest_wire.Given as goal

abbrev pub invariant-loop-n : goal.invariant-loop-n
invariant-loop-n l =
    l.longest ≡ greatest (map (λ wire. slice_index l.lengths wire.1)
    (filter (λ wire. is_some_row (row_left l.sources wire)) (take l.n (zip l.shapes l.nets))))
