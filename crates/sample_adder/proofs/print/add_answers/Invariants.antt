use Rattle.std.proofs.Common.{◌≡◌, ◌++◌, take}
use Rattle.std.specs.List.{flat_map}
use Rattle.text_answers.specs.WordLines.{word_line}
use Rattle.sample_adder.proofs.print.add_answers.Given as goal

abbrev pub invariant-loop-answer : goal.invariant-loop-answer
invariant-loop-answer l =
    l.text.items ≡ l.initial.text.items ++ flat_map word_line (take l.answer-index l.answer-items)
