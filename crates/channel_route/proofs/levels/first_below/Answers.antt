use Rattle.std.proofs.Common.{◌∙◌, arith}
use Rattle.channel_route.proofs.Descent.{none_is}
use Rattle.channel_route.proofs.levels.first_below.Goals as goal

pub returns-else-top_entry-bound : goal.returns-else-top_entry-bound
returns-else-top_entry-bound c = c.entry_count.ensures
    ∙ none_is _ _ c.requires (omega (arith, c.if-top_entry-bound.false, c.top_entry.ensures))
