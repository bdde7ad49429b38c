use Rattle.std.proofs.Common.{◌≡◌, drop}
use Rattle.maj_mapping.specs.Values.{takes_all}
use Rattle.maj_mapping.proofs.cover.takes_all.Given as goal

abbrev pub invariant-loop-i : goal.invariant-loop-i
invariant-loop-i l = takes_all (drop l.i l.plane) (drop l.i l.values) ≡ takes_all l.plane l.values
