use Rattle.union_find.proofs.Written.{other_way}
use Rattle.union_find.proofs.Joined.{turned}
use Rattle.union_find.proofs.heights.Heights.hang_smaller.Goals as goal

pub hang-requires-else-index : goal.hang-requires-else-index
hang-requires-else-index c = other_way _ _ _ _ _ c.requires

pub returns-else-index : goal.returns-else-index
returns-else-index c = turned _ _ _ _ _ _ c.hang-else-index.ensures
