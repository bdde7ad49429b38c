use Rattle.level_balance.proofs.NeededPaths.{marked_needed, counts_needed}
use Rattle.level_balance.proofs.laws.gates_needed.Goals as goal

pub returns : goal.returns
returns c = record {
  marked = λ net i known. marked_needed net known i;
  counted = λ net i known. counts_needed net known i;
}
