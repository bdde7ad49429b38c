use Rattle.std.specs.List.{All}
use Rattle.sat_solver.specs.Code.Following.{Follows}
use Rattle.sat_solver.proofs.checked_clauses.are_refuted.Given as goal

abbrev pub invariant-loop-step : goal.invariant-loop-step
invariant-loop-step l = All (Follows l.graph l.from) l.implied.literals.items
