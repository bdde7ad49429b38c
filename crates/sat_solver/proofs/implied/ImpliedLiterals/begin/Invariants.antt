use Rattle.std.proofs.Common.{◌≡◌, ◌∷◌, take}
use Rattle.sat_solver.proofs.implied.ImpliedLiterals.begin.Given as goal

abbrev pub invariant-loop-literal : goal.invariant-loop-literal
invariant-loop-literal l = l.self.literals.items ≡ 1 ∷ take l.literal-index l.from
