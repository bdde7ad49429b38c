use Rattle.std.proofs.Common.{◌≡◌, take}
use Rattle.level_balance.proofs.page.halves_of.Given as goal

abbrev pub invariant-loop-byte : goal.invariant-loop-byte
invariant-loop-byte l = l.halves.items ≡ take l.byte-index l.bytes
