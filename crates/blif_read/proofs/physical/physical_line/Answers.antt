use Rattle.std.proofs.Common.{◌∙◌, sym}
use Rattle.blif_read.proofs.Cuts.{physical_from, physical_none}
use Rattle.blif_read.proofs.physical.physical_line.Goals as goal

pub returns-in-Some-clause-cut : goal.returns-in-Some-clause-cut
returns-in-Some-clause-cut c = physical_from _ _ _ _ _ _ (sym c.first_feed.ensures
    ∙ c.in-Some.is) c.split_at.ensures.front c.split_at.ensures.back
    c.split_at-in-Some.ensures.back c.without_return.ensures

pub returns-in-None-clause-cut : goal.returns-in-None-clause-cut
returns-in-None-clause-cut c = physical_none _ (sym c.first_feed.ensures ∙ c.in-None.is)
