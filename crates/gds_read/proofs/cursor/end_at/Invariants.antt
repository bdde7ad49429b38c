use Rattle.std.proofs.Common.{◌≡◌, ◌+◌, ◌<◌, ◌^◌, length}
use Rattle.gds_records.specs.Whole.{last_place}
use Rattle.gds_read.specs.Code.Decoding.{IsSpelled, records_in}
use Rattle.gds_read.proofs.cursor.end_at.Given as goal

abbrev pub invariant-records : goal.invariant-records
invariant-records l = record {
  whole : IsSpelled l.rest;
  fits : l.at + length l.rest < 2 ^ 64;
  same : last_place l.at (records_in l.rest) ≡ last_place 0 (records_in l.bytes);
}

abbrev pub decreases-records : goal.decreases-records
decreases-records l = length l.rest
