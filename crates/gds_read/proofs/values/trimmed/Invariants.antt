use Rattle.std.proofs.Common.{◌≡◌, ◌≤◌, length, take}
use Rattle.gds_records.specs.Records.{trimmed}
use Rattle.gds_read.proofs.values.trimmed.Given as goal

abbrev pub invariant-zeros : goal.invariant-zeros
invariant-zeros l = record {
  within : l.end ≤ length l.content;
  same : trimmed
      (take l.end l.content) ≡ trimmed l.content;
}

abbrev pub decreases-zeros : goal.decreases-zeros
decreases-zeros l = l.end
