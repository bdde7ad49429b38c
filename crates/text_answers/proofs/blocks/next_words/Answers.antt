use Rattle.std.proofs.Common.{sym, ◌∙◌, rules, arith}
use Rattle.text_answers.proofs.InBlocks.{next_long, next_left, words_more}
use Rattle.text_answers.proofs.blocks.next_words.Goals as goal

pub copy_line-requires-clause-long : goal.copy_line-requires-clause-long
copy_line-requires-clause-long c = c.loop-lane.invariant.long
    ∙ sym (next_long c.args.text.now c.loop-lane.rest.now _ c.first_line.result.1.now c.loop-lane.lane _
    c.loop-lane.invariant.left c.first_line.ensures.lines c.requires.wide)

pub loop-lane-preserved : goal.loop-lane-preserved
loop-lane-preserved c = record {
  long = c.copy_line.auto.into ∙ c.loop-lane.invariant.long;
  left = next_left c.args.text.now c.loop-lane.rest.now _ c.first_line.result.1.now c.loop-lane.lane
      c.loop-lane.invariant.left c.first_line.ensures.lines;
  read = words_more c.args.text.now c.loop-lane.rest.now _ c.first_line.result.1.now c.loop-lane.lane c.loop-lane.words
      _ c.loop-lane.invariant.left c.first_line.ensures.lines c.copy_line.ensures.here c.copy_line.ensures.others
      (search (rules, arith)) c.loop-lane.invariant.read;
}
