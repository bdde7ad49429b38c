use Rattle.std.proofs.Common.{◌≡◌, ◌*◌, length}
use Rattle.test_circuits.proofs.answers.words_text.Given as goal

abbrev pub invariant-loop-number : goal.invariant-loop-number
invariant-loop-number l = length l.text.items ≡ 2 * l.number
