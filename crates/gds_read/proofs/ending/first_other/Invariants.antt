use Rattle.std.proofs.Common.{◌≡◌, ◌+◌, drop}
use Rattle.gds_records.specs.Stream.{are_zero}
use Rattle.gds_records.specs.Faults.{zeros_before}
use Rattle.gds_read.proofs.ending.first_other.Given as goal

abbrev pub invariant-loop-place : goal.invariant-loop-place
invariant-loop-place l = record {
  same : are_zero (drop l.place l.bytes) ≡ are_zero l.bytes;
  place : l.place + zeros_before (drop l.place l.bytes) ≡ zeros_before l.bytes;
}
