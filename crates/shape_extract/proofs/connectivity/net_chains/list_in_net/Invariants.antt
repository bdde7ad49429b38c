use Rattle.std.proofs.Common.{◌-◌, length}
use Rattle.shape_extract.proofs.NetChains.{WalkedTo}
use Rattle.shape_extract.proofs.connectivity.net_chains.list_in_net.Given as goal

abbrev pub invariant-loop-b : goal.invariant-loop-b
invariant-loop-b l = WalkedTo l.shapes l.nets l.layer l.a l.b l.found.items

abbrev pub decreases-loop-b : goal.decreases-loop-b
decreases-loop-b l = length l.shapes - l.b
