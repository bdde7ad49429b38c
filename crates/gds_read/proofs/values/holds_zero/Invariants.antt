use Rattle.std.proofs.Common.{◌≡◌, take, false}
use Rattle.gds_records.specs.Values.{holds_zero}
use Rattle.gds_read.proofs.values.holds_zero.Given as goal

abbrev pub invariant-loop-b : goal.invariant-loop-b
invariant-loop-b l = holds_zero (take l.b-index l.text) ≡ false
