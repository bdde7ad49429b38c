use Rattle.std.proofs.Common.{◌≡◌, take, map}
use Rattle.poly_cut.specs.Code.Holding.{some_held}
use Rattle.poly_cut.proofs.holding.marks_above.Given as goal

abbrev pub invariant-loop-structure : goal.invariant-loop-structure
invariant-loop-structure l = l.above.items ≡ map (λ s. some_held l.marks s.items) (take l.structure-index l.structures)
