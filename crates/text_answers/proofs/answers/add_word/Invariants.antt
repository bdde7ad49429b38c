use Rattle.std.proofs.Common.{◌≡◌, ◌++◌, map, take}
use Rattle.text_answers.specs.WordLines.{digit_of}
use Rattle.text_answers.proofs.answers.add_word.Given as goal

abbrev pub invariant-loop-value : goal.invariant-loop-value
invariant-loop-value l = l.page.items ≡ l.initial.page.items ++ map digit_of (take l.value-index l.value-items)
