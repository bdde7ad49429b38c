use Rattle.channel_route.proofs.Raising.{Raising}
use Rattle.channel_route.proofs.levels.put_entry.Given as goal

abbrev pub invariant-loop-level : goal.invariant-loop-level
invariant-loop-level l = Raising l.fn.levels.items l.level-items l.index l.value l.level-index l.«at» l.least
