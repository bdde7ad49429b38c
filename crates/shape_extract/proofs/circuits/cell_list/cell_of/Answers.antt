use Rattle.shape_extract.proofs.InPlanes.{pin_pinned}
use Rattle.std.proofs.Common.{refl}
use Rattle.layout_rules.specs.Reports.{PassTogether}
use Rattle.shape_extract.specs.Code.Cells.{holds_pin}
use Rattle.shape_extract.specs.Searches.{AreThose}
use Rattle.shape_extract.proofs.CellLists.{cell_made}
use Rattle.shape_extract.proofs.circuits.cell_list.cell_of.Goals as goal

pub feed_at-feed0-requires-clause-pins : goal.feed_at-feed0-requires-clause-pins
feed_at-feed0-requires-clause-pins c =
    let are : AreThose (PassTogether holds_pin c.args.tables.now.flat.now.shapes c.args.f)
    c.list_filed_partners.new.found.items = rw c.as_slice-shapes.ensures at c.in_ok-list_filed_partners.ensures in
    rw c.as_slice.ensures.value are

pub feed_at-feed1-requires-clause-pins : goal.feed_at-feed1-requires-clause-pins
feed_at-feed1-requires-clause-pins c =
    let are : AreThose (PassTogether holds_pin c.args.tables.now.flat.now.shapes c.args.f)
    c.list_filed_partners.new.found.items = rw c.as_slice-shapes.ensures at c.in_ok-list_filed_partners.ensures in
    rw c.as_slice-2.ensures.value are

pub feed_at-feed2-requires-clause-pins : goal.feed_at-feed2-requires-clause-pins
feed_at-feed2-requires-clause-pins c =
    let are : AreThose (PassTogether holds_pin c.args.tables.now.flat.now.shapes c.args.f)
    c.list_filed_partners.new.found.items = rw c.as_slice-shapes.ensures at c.in_ok-list_filed_partners.ensures in
    rw c.as_slice-3.ensures.value are

pub returns : goal.returns
returns c =
    cell_made c.args.tables.now.flat.now c.args.tables.now.frames.now c.kind_of-kind.result c.args.f
    c.kind_of-kind.ensures c.row_of-row.result _ _ _ _ c.row_of-row.ensures refl
    (c.requires.tables.five.excited c.args.f)
    c.feed_at-feed0.ensures c.feed_at-feed1.ensures c.feed_at-feed2.ensures

pub list_filed_partners-requires-clause-planar : goal.list_filed_partners-requires-clause-planar
list_filed_partners-requires-clause-planar c = λ s t h. pin_pinned s t h
