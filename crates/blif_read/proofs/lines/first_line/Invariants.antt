use Rattle.std.proofs.Common.{◌≡◌, ◌+◌, ◌≤◌, length, Option, None, Some, ℕ, List, [], Bor}
use Rattle.std.specs.Option.{option_map}
use Rattle.blif_read.specs.Code.Reading.{lines_from, left}
use Rattle.blif_read.proofs.lines.first_line.Given as goal

abbrev pub size : Option (Bor (List ℕ)) → ℕ
size None = 0
size (Some rest) = length rest.now + 1

abbrev pub invariant-loop-rest : goal.invariant-loop-rest
invariant-loop-rest l = record {
  fits : l.first + size l.rest ≤ l.number + length l.fn.text + 1;
  lines : left l.first [] l.first (option_map (λ t. t.now) l.rest) ≡ lines_from l.number l.fn.text;
}

abbrev pub decreases-loop-rest : goal.decreases-loop-rest
decreases-loop-rest l = size l.rest
