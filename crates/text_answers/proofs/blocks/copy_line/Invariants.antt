use Rattle.std.proofs.Common.{◌≡◌, ◌≢◌, ℕ, ◌<◌, length, take}
use Rattle.text_answers.specs.Code.Lanes.{in_lane}
use Rattle.text_answers.specs.WordsText.{word_of}
use Rattle.text_answers.proofs.blocks.copy_line.Given as goal

abbrev pub invariant-loop-place : goal.invariant-loop-place
invariant-loop-place l = record {
  long : length l.into ≡ length l.line;
  copied : take l.place (in_lane l.lane l.into) ≡ take l.place (word_of l.line);
  others : (other : ℕ) → other < 128 → other ≢ l.lane → in_lane other l.into ≡ in_lane other l.initial.into;
}
