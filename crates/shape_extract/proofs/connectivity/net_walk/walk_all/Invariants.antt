use Rattle.shape_extract.proofs.NetWalk.{WalkedTo}
use Rattle.shape_extract.proofs.connectivity.net_walk.walk_all.Given as goal

abbrev pub invariant-loop-i : goal.invariant-loop-i
invariant-loop-i l = WalkedTo l.i l.kinds l.walk
