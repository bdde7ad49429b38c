use Rattle.std.proofs.Common.{take}
use Rattle.std.specs.List.{All}
use Rattle.sat_solver.specs.Code.Following.{IsImplied}
use Rattle.sat_solver.proofs.implied.ImpliedLiterals.is_unit.Given as goal

abbrev pub invariant-loop-further : goal.invariant-loop-further
invariant-loop-further l = All (IsImplied l.self.literals.items l.literal) (take l.further-index l.clause)
