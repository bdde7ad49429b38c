use Rattle.std.proofs.Common.{◌∙◌, sym}
use Rattle.std.proofs.Math.Seq.{take-length, drop-length}
use Rattle.text_answers.proofs.Cuts.{line_from, line_alone}
use Rattle.text_answers.proofs.lines.first_line.Goals as goal

pub returns-in-Some-clause-lines : goal.returns-in-Some-clause-lines
returns-in-Some-clause-lines c = line_from _ _ _ _ _ _ (sym c.first_feed.ensures
    ∙ c.in-Some.is) c.split_at.ensures.front c.split_at.ensures.back
    c.split_at-in-Some.ensures.back c.without_return.ensures

pub returns-in-None-clause-lines : goal.returns-in-None-clause-lines
returns-in-None-clause-lines c = line_alone _ _ _ (sym c.first_feed.ensures ∙ c.in-None.is) c.requires
    (c.split_at-in-None.ensures.front ∙ take-length c.args.text.now) (c.split_at-in-None.ensures.back
    ∙ drop-length c.args.text.now)
