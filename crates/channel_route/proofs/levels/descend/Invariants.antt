use Rattle.channel_route.proofs.Descent.{Stands}
use Rattle.channel_route.proofs.levels.descend.Given as goal

abbrev pub invariant-loop-level : goal.invariant-loop-level
invariant-loop-level l = Stands l.levels l.bound l.level l.«at»

abbrev pub decreases-loop-level : goal.decreases-loop-level
decreases-loop-level l = l.level
