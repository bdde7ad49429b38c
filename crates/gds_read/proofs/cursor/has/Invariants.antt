use Rattle.std.proofs.Common.{◌≡◌, length}
use Rattle.gds_records.specs.Drawing.{has}
use Rattle.gds_read.specs.Code.Decoding.{IsSpelled, records_in}
use Rattle.gds_read.proofs.cursor.has.Given as goal

abbrev pub invariant-records : goal.invariant-records
invariant-records l = record {
  whole : IsSpelled l.rest;
  same : has l.kind (records_in l.rest) ≡ has l.kind
      (records_in l.bytes);
}

abbrev pub decreases-records : goal.decreases-records
decreases-records l = length l.rest
