use Rattle.blif_read.proofs.Cuts.{plain_first, commented_first}
use Rattle.blif_read.proofs.physical.uncommented_line.Goals as goal

pub returns-in-Some-clause-first : goal.returns-in-Some-clause-first
returns-in-Some-clause-first c =
    plain_first c.args.text.now c.in-Some.at _ _ _ _ c.in-Some.ensures.feed c.in-Some.ensures.plain
    c.split_at.ensures.front c.split_at.ensures.back c.split_at-in-Some.ensures.back c.without_return.ensures

pub returns-in-None-clause-first : goal.returns-in-None-clause-first
returns-in-None-clause-first c =
    commented_first c.args.text.now c.physical_line.result.0.now _ _ c.physical_line.ensures.cut
    c.without_comment.ensures
