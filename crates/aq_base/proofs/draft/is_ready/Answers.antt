use Rattle.aq_base.proofs.Drafting.{ready_mode}
use Rattle.aq_base.proofs.draft.is_ready.Goals as goal

pub returns : goal.returns
returns g c = ready_mode _ _ _ _ _ c.set_mode.ensures c.if-not-set_mode.false c.sync-2.ensures
