use Rattle.std.proofs.Common.{◌≡◌, drop}
use Rattle.placement_check.specs.Wider.{row_marked}
use Rattle.placement_check.proofs.widening.row_marked.Given as goal

abbrev pub invariant-loop-place : goal.invariant-loop-place
invariant-loop-place l =
    row_marked l.below.net.now l.below.became.now l.below.places.now l.below.number l.below.marks.now l.place
    (drop l.place l.cells) (drop l.place l.marks) ≡ row_marked l.below.net.now l.below.became.now l.below.places.now
    l.below.number l.below.marks.now 0 l.cells l.marks
