use Rattle.shape_extract.proofs.NetChains.{LinkedFrom}
use Rattle.shape_extract.proofs.connectivity.net_chains.link.Given as goal

abbrev pub invariant-loop-x : goal.invariant-loop-x
invariant-loop-x l = LinkedFrom l.x l.nets l.heads l.next
