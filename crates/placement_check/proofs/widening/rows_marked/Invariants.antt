use Rattle.std.proofs.Common.{◌≡◌, [], drop}
use Rattle.placement_check.specs.Wider.{rows_marked}
use Rattle.placement_check.proofs.widening.rows_marked.Given as goal

abbrev pub invariant-loop-number : goal.invariant-loop-number
invariant-loop-number l = rows_marked l.net l.became l.places l.number l.below (drop l.number l.rows)
    (drop l.number l.marks) ≡ rows_marked l.net l.became l.places 0 [] l.rows l.marks
