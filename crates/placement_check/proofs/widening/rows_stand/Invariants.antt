use Rattle.std.proofs.Common.{◌≡◌, drop}
use Rattle.placement_check.specs.Wider.{rows_stand}
use Rattle.placement_check.proofs.widening.rows_stand.Given as goal

abbrev pub invariant-loop-number : goal.invariant-loop-number
invariant-loop-number l = rows_stand l.places l.marks l.number (drop l.number l.net)
    ≡ rows_stand l.places l.marks 0 l.net
