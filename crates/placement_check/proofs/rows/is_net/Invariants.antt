use Rattle.std.proofs.Common.{◌≡◌, [], length, drop}
use Rattle.placement_check.specs.Code.Rows.{are_rows}
use Rattle.placement_check.proofs.rows.is_net.Given as goal

abbrev pub invariant-loop-number : goal.invariant-loop-number
invariant-loop-number l = are_rows l.inputs l.outputs (length l.rows) l.number l.below
    (drop l.number l.rows) ≡ are_rows l.inputs l.outputs (length l.rows) 0 [] l.rows
