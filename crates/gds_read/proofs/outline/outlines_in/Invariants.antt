use Rattle.std.proofs.Common.{◌≡◌, ◌+◌, ◌<◌, ◌≤◌, ◌^◌, ◌++◌, map, length}
use Rattle.gds_records.specs.Whole.{outlines}
use Rattle.gds_read.specs.Code.Decoding.{IsSpelled, records_in}
use Rattle.gds_read.specs.Code.Outlining.{outline_of}
use Rattle.gds_read.proofs.outline.outlines_in.Given as goal

abbrev pub invariant-records : goal.invariant-records
invariant-records l = record {
  whole : IsSpelled l.rest;
  fits : l.at + length l.rest < 2 ^ 64;
  few : length l.found + length l.rest ≤ length l.bytes;
  same : map outline_of l.found ++ outlines l.at (records_in l.rest) ≡ outlines 0 (records_in l.bytes);
}

abbrev pub decreases-records : goal.decreases-records
decreases-records l = length l.rest
