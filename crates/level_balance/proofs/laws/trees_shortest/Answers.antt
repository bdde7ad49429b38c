use Rattle.level_balance.proofs.ShortestTrees.{tree_exponent, tree_length, tree_shortest}
use Rattle.level_balance.proofs.laws.trees_shortest.Goals as goal

pub returns : goal.returns
returns c = record { exponent = tree_exponent; rows = tree_length; shortest = tree_shortest }
