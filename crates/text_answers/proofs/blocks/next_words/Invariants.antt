use Rattle.std.proofs.Common.{◌≡◌, ℕ, ◌<◌, [], length, drop, get_or}
use Rattle.std.specs.Str.Lines.{lines}
use Rattle.text_answers.specs.Code.Lanes.{in_lane}
use Rattle.text_answers.specs.WordsText.{word_of}
use Rattle.text_answers.proofs.blocks.next_words.Given as goal

abbrev pub invariant-loop-lane : goal.invariant-loop-lane
invariant-loop-lane l = record {
  long : length l.words ≡ length l.initial.words;
  left : lines l.rest ≡ drop l.lane (lines l.text);
  read : (i : ℕ) → i < l.lane → in_lane i l.words ≡ word_of (get_or (lines l.text) i []);
}
