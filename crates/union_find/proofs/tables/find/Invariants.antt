use Rattle.std.proofs.Common.{length, ◌-◌}
use Rattle.std.specs.Prelude.{slice_index}
use Rattle.union_find.specs.Forests.{trees}
use Rattle.union_find.specs.Code.Shapes.{tables_of, IsOnWay}
use Rattle.union_find.proofs.tables.find.Given as goal

abbrev pub invariant-loop-at : goal.invariant-loop-at
invariant-loop-at l = IsOnWay (trees (tables_of l.parent l.above l.height l._size)) l.node l.at l.gained

abbrev pub decreases-loop-at : goal.decreases-loop-at
decreases-loop-at l = length l.parent - slice_index l._size l.at
