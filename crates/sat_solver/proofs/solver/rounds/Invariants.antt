use Rattle.sat_solver.specs.Clauses.{AreClauses}
use Rattle.sat_solver.proofs.solver.rounds.Given as goal

abbrev pub invariant-loop : goal.invariant-loop
invariant-loop l = AreClauses l.graph l.clauses.items
