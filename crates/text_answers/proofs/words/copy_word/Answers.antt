use Rattle.std.proofs.Common.{rules}
use Rattle.text_answers.proofs.Reading.{copied_more}
use Rattle.text_answers.proofs.words.copy_word.Goals as goal

pub loop-place-preserved : goal.loop-place-preserved
loop-place-preserved c = record {
  long = search rules;
  copied = copied_more _ _ _ _ c.loop-place-test.true c.loop-place.invariant.long
      c.loop-place.invariant.copied c.set.ensures;
}
