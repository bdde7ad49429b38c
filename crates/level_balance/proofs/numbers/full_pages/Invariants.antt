use Rattle.std.proofs.Common.{◌≡◌, ◌++◌, replicate}
use Rattle.level_balance.proofs.numbers.full_pages.Given as goal

abbrev pub invariant-loop-left : goal.invariant-loop-left
invariant-loop-left l = l.pages.items ++ replicate l.left (replicate l.size 0) ≡ replicate l.count (replicate l.size 0)

abbrev pub decreases-loop-left : goal.decreases-loop-left
decreases-loop-left l = l.left
