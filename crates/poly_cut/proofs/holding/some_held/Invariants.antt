use Rattle.std.proofs.Common.{◌≡◌, take, false}
use Rattle.poly_cut.specs.Code.Holding.{some_held}
use Rattle.poly_cut.proofs.holding.some_held.Given as goal

abbrev pub invariant-loop-item : goal.invariant-loop-item
invariant-loop-item l = some_held l.marks (take l.item-index l.items) ≡ false
