use Rattle.std.proofs.Common.{◌≡◌, drop}
use Rattle.placement_check.specs.Code.Numbering.{put_all, places}
use Rattle.placement_check.proofs.numbering.places.Given as goal

abbrev pub invariant-loop-place : goal.invariant-loop-place
invariant-loop-place l = put_all l.table.items l.place (drop l.place l.keys) ≡ places l.bound l.keys
