use Rattle.std.proofs.Common.{take}
use Rattle.blif_flat.specs.Code.Numbering.{IsNumbering}
use Rattle.blif_flat.specs.Code.Wired.{is_own}
use Rattle.blif_flat.proofs.expansion.ends.own_numbers.Given as goal

abbrev pub invariant-loop-number : goal.invariant-loop-number
invariant-loop-number l = IsNumbering is_own l.numbers.entries (take l.number l.places)
