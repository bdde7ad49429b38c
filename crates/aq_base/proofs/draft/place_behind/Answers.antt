use Rattle.aq_base.specs.Honest.{is_idle}
use Rattle.aq_base.proofs.Drafting.{adds-join, led-idle}
use Rattle.aq_base.proofs.draft.place_behind.Goals as goal

pub returns-in-Err-clause-refused : goal.returns-in-Err-clause-refused
returns-in-Err-clause-refused g c = led-idle _ _ _ _ c.loop.invariant

pub returns-then-not-about-clause-found : goal.returns-then-not-about-clause-found
returns-then-not-about-clause-found g c = led-idle _ _ _ _ c.loop.invariant

pub returns-in-Err-follow-clause-refused : goal.returns-in-Err-follow-clause-refused
returns-in-Err-follow-clause-refused g c =
    adds-join is_idle _ _ _ (led-idle _ _ _ _ c.loop.invariant) c.in-Err-follow.ensures.refused

pub returns-clause-refused : goal.returns-clause-refused
returns-clause-refused g c = led-idle _ _ _ _ c.loop.invariant
