use Rattle.std.proofs.Common.{◌≡◌, ◌≤◌}
use Rattle.shown_names.specs.Names.{whole_length as longest_whole}
use Rattle.shown_names.proofs.name.whole_length.Given as goal

abbrev pub invariant-loop-shown : goal.invariant-loop-shown
invariant-loop-shown l = (longest_whole l.name l.shown ≡ longest_whole l.name 200) × (l.shown ≤ 200)

abbrev pub decreases-loop-shown : goal.decreases-loop-shown
decreases-loop-shown l = l.shown
