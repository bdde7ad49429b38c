use Rattle.std.proofs.Common.{◌≡◌, ◌+◌, ◌<◌, ◌^◌, ◌++◌, map, length}
use Rattle.gds_records.specs.Whole.{uses_from}
use Rattle.gds_read.specs.Code.Decoding.{IsSpelled, records_in}
use Rattle.gds_read.specs.Code.Outlining.{use_of}
use Rattle.gds_read.proofs.outline.uses_in.Given as goal

abbrev pub invariant-records : goal.invariant-records
invariant-records l = record {
  whole : IsSpelled l.rest;
  fits : l.at + length l.rest < 2 ^ 64;
  same : map use_of l.uses ++ uses_from l.at (records_in l.rest) ≡ uses_from l.place (records_in l.bytes);
}

abbrev pub decreases-records : goal.decreases-records
decreases-records l = length l.rest
