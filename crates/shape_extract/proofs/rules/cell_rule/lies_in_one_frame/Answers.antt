use Rattle.shape_extract.proofs.InPlanes.{frame_framed}
use Rattle.std.proofs.Common.{arith}
use Rattle.shape_extract.proofs.Marked.{one_frame_said}
use Rattle.shape_extract.proofs.rules.cell_rule.lies_in_one_frame.Goals as goal

pub returns : goal.returns
returns c = one_frame_said _ _ _ _ c.in_ok-list_filed_partners.ensures (omega arith)

pub list_filed_partners-requires-clause-planar : goal.list_filed_partners-requires-clause-planar
list_filed_partners-requires-clause-planar c = λ s t h. frame_framed s t h
