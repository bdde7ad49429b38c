use Rattle.std.proofs.Common.{◌≡◌, ◌≤◌, length, drop}
use Rattle.level_balance.specs.Counts.{capped}
use Rattle.level_balance.specs.Code.Served.{leads_cells, at_place}
use Rattle.level_balance.proofs.count.outputs_total.Given as goal

abbrev pub invariant-loop-left : goal.invariant-loop-left
invariant-loop-left l = record {
  within : l.left ≤ length l.outputs;
  same : l.total ≡ capped (leads_cells l.inputs (at_place l.ends) l.row (drop l.left l.outputs));
}

abbrev pub decreases-loop-left : goal.decreases-loop-left
decreases-loop-left l = l.left
