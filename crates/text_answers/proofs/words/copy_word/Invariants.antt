use Rattle.std.proofs.Common.{◌≡◌, length, take}
use Rattle.text_answers.specs.WordsText.{word_of}
use Rattle.text_answers.proofs.words.copy_word.Given as goal

abbrev pub invariant-loop-place : goal.invariant-loop-place
invariant-loop-place l = record {
  long : length l.into ≡ length l.line;
  copied : take l.place l.into ≡ take l.place (word_of l.line);
}
