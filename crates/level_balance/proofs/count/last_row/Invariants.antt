use Rattle.std.proofs.Common.{◌≡◌, ◌≤◌, ◌^◌, length, drop}
use Rattle.level_balance.specs.Code.Served.{greatest_end, at_place}
use Rattle.level_balance.proofs.count.last_row.Given as goal

abbrev pub invariant-loop-left : goal.invariant-loop-left
invariant-loop-left l = record {
  within : l.left ≤ length l.outputs;
  low : l.row ≤ 2 ^ 40;
  same : l.row ≡ greatest_end l.inputs (at_place l.ends) (drop l.left l.outputs);
}

abbrev pub decreases-loop-left : goal.decreases-loop-left
decreases-loop-left l = l.left
