use Rattle.circuit.specs.Ranked.{solution}
use Rattle.circuit.proofs.Solutions.{some_solution, one_solution}
use Rattle.circuit.proofs.ranked.ranked_equations.Goals as goal

pub returns : goal.returns
returns c = record {
  some = λ rank equation ranked. (solution rank equation, some_solution rank equation ranked);
  only = one_solution;
}
