use Rattle.std.proofs.Common.{◌≡◌}
use Rattle.sample_adder.specs.EightWords.{sample_word}
use Rattle.sample_adder.proofs.eight.word_of.Given as goal

abbrev pub invariant-loop-place : goal.invariant-loop-place
invariant-loop-place l = l.values ≡ sample_word l.word l.place
