use Rattle.std.specs.Prelude.{string_bytes}
use Rattle.aq_base.specs.Disks.{acts_of}
use Rattle.aq_base.specs.Honest.{Led}
use Rattle.aq_base.proofs.draft.place_behind.Given as goal

abbrev pub invariant-loop : goal.invariant-loop
invariant-loop g l = Led l.name (acts_of l.initial.disk) (acts_of l.disk) (string_bytes l.path)
