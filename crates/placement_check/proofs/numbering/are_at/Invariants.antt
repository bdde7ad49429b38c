use Rattle.std.proofs.Common.{◌≡◌, drop}
use Rattle.placement_check.specs.Code.Numbering.{are_at}
use Rattle.placement_check.proofs.numbering.are_at.Given as goal

abbrev pub invariant-loop-place : goal.invariant-loop-place
invariant-loop-place l = are_at l.table l.place (drop l.place l.keys) ≡ are_at l.table 0 l.keys
