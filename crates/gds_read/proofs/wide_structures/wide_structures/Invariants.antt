use Rattle.std.proofs.Common.{◌≡◌, ◌++◌, map, length}
use Rattle.gds_records.specs.Drawing.{starts}
use Rattle.gds_records.specs.WideDrawing.{wide_structure_of}
use Rattle.gds_read.specs.Code.Decoding.{IsSpelled, records_in}
use Rattle.gds_read.specs.Code.Outlining.{names_in}
use Rattle.gds_read.proofs.wide_structures.wide_structures.Given as goal

abbrev pub invariant-records : goal.invariant-records
invariant-records l = record {
  whole : IsSpelled l.rest;
  same : l.found ++ map (wide_structure_of (names_in l.outlines)) (starts (records_in l.rest)) ≡ map
      (wide_structure_of (names_in l.outlines)) (starts (records_in l.bytes));
}

abbrev pub decreases-records : goal.decreases-records
decreases-records l = length l.rest
