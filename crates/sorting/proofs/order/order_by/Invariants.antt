use Rattle.std.proofs.Common.{◌≡◌, ◌++◌, drop}
use Rattle.sorting.proofs.KeyedNumbers.{keyed}
use Rattle.sorting.proofs.order.order_by.Given as goal

abbrev pub invariant-loop-number : goal.invariant-loop-number
invariant-loop-number l = l.keyed.items ++ keyed l.number (drop l.number l.keys) ≡ keyed 0 l.keys
