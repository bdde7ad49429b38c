use Rattle.aq_base.specs.Acts.{Adds}
use Rattle.aq_base.specs.Code.Drafts.{is_aside}
use Rattle.aq_base.specs.Disks.{acts_of}
use Rattle.aq_base.proofs.draft.first_draft.Given as goal

abbrev pub invariant-loop-number : goal.invariant-loop-number
invariant-loop-number g l = Adds is_aside (acts_of l.initial.disk) (acts_of l.disk)
