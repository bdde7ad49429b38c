use Rattle.std.proofs.Common.{take}
use Rattle.blif_flat.specs.Code.Linked.{AreLinks}
use Rattle.blif_flat.proofs.models.links.links_of.Given as goal

abbrev pub invariant-loop-call : goal.invariant-loop-call
invariant-loop-call l = AreLinks l.design (take l.call-index l.calls) l.links
