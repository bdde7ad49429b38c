use Rattle.layout_make.proofs.AllRules.{keeps_rules, keeps_cells, keeps_joined}
use Rattle.layout_make.proofs.Ready.{lawful, may_ready}
use Rattle.layout_make.proofs.SizeLaw.{size_law}
use Rattle.layout_make.proofs.WritableLaw.{writable}
use Rattle.layout_make.proofs.WireNets.{wire_law}
use Rattle.layout_make.proofs.laws.drawing_laws.Goals as goal

pub returns-clause-rules : goal.returns-clause-rules
returns-clause-rules c p l may = keeps_rules p l c.tracks_are_fewest.ensures.plan may

pub returns-clause-cells : goal.returns-clause-cells
returns-clause-cells c p l may = keeps_cells p l c.tracks_are_fewest.ensures.plan may

pub returns-clause-joined : goal.returns-clause-joined
returns-clause-joined c p l may = keeps_joined p l c.tracks_are_fewest.ensures.plan may

pub returns-clause-wires : goal.returns-clause-wires
returns-clause-wires c p l may = wire_law p l (may_ready p l c.tracks_are_fewest.ensures.plan may)
    (lawful l may.library)

pub returns-clause-size : goal.returns-clause-size
returns-clause-size c p l is = size_law p l is

pub returns-clause-writable : goal.returns-clause-writable
returns-clause-writable c p l may = writable p l c.tracks_are_fewest.ensures.plan may
