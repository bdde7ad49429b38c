use Rattle.std.proofs.Common.{◌≡◌, map, take}
use Rattle.decide.specs.Code.Orders.{renumber}
use Rattle.decide.proofs.order.renumbered.Given as goal

abbrev pub invariant-loop-gate : goal.invariant-loop-gate
invariant-loop-gate l = l.again.items ≡ map (renumber l.rank) (take l.gate-index l.gates)
