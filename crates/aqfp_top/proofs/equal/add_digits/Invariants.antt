use Rattle.std.proofs.Common.{◌≡◌, ◌++◌, map, take}
use Rattle.text_answers.specs.WordLines.{digit_of}
use Rattle.aqfp_top.proofs.equal.add_digits.Given as goal

abbrev pub invariant-loop-value : goal.invariant-loop-value
invariant-loop-value l = l.line.items ≡ l.initial.line.items ++ map digit_of (take l.value-index l.value-items)
