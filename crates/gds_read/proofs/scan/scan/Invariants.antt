use Rattle.std.proofs.Common.{◌≡◌, ℕ, ◌-◌, ◌<◌, ◌≤◌, true, length, drop}
use Rattle.gds_records.specs.Steps.{steps, all_steps}
use Rattle.gds_records.specs.Profiles.{wide}
use Rattle.gds_read.specs.Code.Places.{rest_of, is_clear_place}
use Rattle.gds_read.specs.Code.Steps.{kept}
use Rattle.gds_read.specs.Code.Texts.{texts}
use Rattle.gds_read.proofs.scan.scan.Given as goal

abbrev pub invariant-records : goal.invariant-records
invariant-records l = record {
  within : l.at ≤ length l.bytes;
  clear : is_clear_place l.place ≡ true;
  turns : ℕ;
  enough : length l.bytes - l.at < turns;
  same : all_steps wide l.bytes
      ≡ steps wide turns (rest_of l.place) (kept l.element l.colrow (texts l.names.keys)) l.at
      (drop l.at l.bytes);
}

abbrev pub decreases-records : goal.decreases-records
decreases-records l = length l.bytes - l.at
