use Rattle.std.proofs.Common.{◌∙◌, sym, ap}
use Rattle.blif_read.specs.Lines.{is_feed}
use Rattle.blif_read.proofs.Cuts.{feed_found}
use Rattle.blif_read.proofs.physical.plain_end.Goals as goal

pub returns-then-text-at-eq10-clause-feed : goal.returns-then-text-at-eq10-clause-feed
returns-then-text-at-eq10-clause-feed c =
    (feed_found c.args.text.now c.in-Some.at (sym c.first_mark.ensures ∙ c.in-Some.is)
    (ap is_feed c.if-text-at-eq10.true)).0

pub returns-then-text-at-eq10-clause-plain : goal.returns-then-text-at-eq10-clause-plain
returns-then-text-at-eq10-clause-plain c =
    (feed_found c.args.text.now c.in-Some.at (sym c.first_mark.ensures ∙ c.in-Some.is)
    (ap is_feed c.if-text-at-eq10.true)).1
