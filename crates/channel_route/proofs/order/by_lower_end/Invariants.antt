use Rattle.std.proofs.Common.{◌≡◌, take}
use Rattle.channel_route.specs.Code.Numbered.{numbered}
use Rattle.channel_route.proofs.order.by_lower_end.Given as goal

abbrev pub invariant-loop-number : goal.invariant-loop-number
invariant-loop-number l = l.sorted.items ≡ numbered 0 (take l.number l.wires)
