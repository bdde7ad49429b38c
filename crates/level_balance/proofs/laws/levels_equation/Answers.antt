use Rattle.level_balance.proofs.LevelEquation.{low_level, one_above_operands, one_above_outputs, last_of_constants}
use Rattle.level_balance.proofs.LevelEquation.{levels_room, lowest}
use Rattle.level_balance.proofs.laws.levels_equation.Goals as goal

pub returns : goal.returns
returns c = record {
  low = λ net three i g known. low_level net three known i g;
  gates = λ net three i g known. one_above_operands net three known i g;
  outputs = λ net three x known. one_above_outputs net three known x;
  constants = λ net three known. last_of_constants net three known;
  room = λ net three known. levels_room net three known;
  lowest = λ net three rows i g known room. lowest net three known rows room i g;
}
