use Rattle.std.proofs.Common.{◌≡◌, ◌*◌}
use Rattle.sample_adder.specs.EightWords.{first_words}
use Rattle.sample_adder.proofs.eight.sample_words.Given as goal

abbrev pub invariant-loop-word : goal.invariant-loop-word
invariant-loop-word l = l.words ≡ first_words (2 * l.bits) l.word
