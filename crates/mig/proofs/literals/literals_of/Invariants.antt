use Rattle.std.proofs.Common.{◌≡◌, ◌++◌, map, drop, Some}
use Rattle.mig.specs.Carried.{literal_at}
use Rattle.mig.proofs.literals.literals_of.Given as goal

abbrev pub invariant-loop-number : goal.invariant-loop-number
invariant-loop-number l = map Some l.literals.items ++ map (literal_at l.found) (drop l.number-index l.numbers) ≡ map
    (literal_at l.found) l.numbers
