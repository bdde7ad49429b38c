use Rattle.std.proofs.Common.{◌≡◌, length}
use Rattle.test_fixtures.proofs.words.numbered_word.Given as goal

abbrev pub invariant-loop-input : goal.invariant-loop-input
invariant-loop-input l = length l.word ≡ l.input
