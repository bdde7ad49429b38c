use Rattle.std.proofs.Common.{◌∙◌, length-set}
use Rattle.text_answers.proofs.InLanes.{copied_lane, other_lane}
use Rattle.text_answers.proofs.blocks.copy_line.Goals as goal

pub loop-place-preserved : goal.loop-place-preserved
loop-place-preserved c = record {
  long = length-set c.loop-place.into c.loop-place.place c.with_bit.result ∙ c.loop-place.invariant.long;
  copied = copied_lane c.args.lane c.args.line.now c.loop-place.into c.with_bit.result c.loop-place.place
      c.loop-place-test.true c.loop-place.invariant.long c.loop-place.invariant.copied c.with_bit.ensures.here;
  others = λ other below apart. other_lane other c.loop-place.into c.with_bit.result c.loop-place.place
      (c.with_bit.ensures.others other below apart) ∙ c.loop-place.invariant.others other below apart;
}
