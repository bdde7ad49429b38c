use Rattle.std.proofs.Common.{◌≡◌, take}
use Rattle.channel_route.specs.Crossing.{numbers_crossing}
use Rattle.channel_route.proofs.channel.numbers_over.Given as goal

abbrev pub invariant-loop-number : goal.invariant-loop-number
invariant-loop-number l = l.numbers.items ≡ numbers_crossing l.column 0 (take l.number l.wires)
