use Rattle.std.proofs.Common.{◌≡◌, ◌++◌, map, drop}
use Rattle.row_place.specs.Places.{packed}
use Rattle.plan_draw.proofs.pack.each_slots.Given as goal

abbrev pub invariant-loop-row : goal.invariant-loop-row
invariant-loop-row l = l.slots.items ++ map (packed 0) (drop l.row-index l.rows) ≡ map (packed 0) l.rows
