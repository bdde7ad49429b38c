use Rattle.shape_extract.proofs.InPlanes.{pin_pinned}
use Rattle.std.proofs.lemmas.Option.{slice_get-get_or}
use Rattle.circuit.specs.CellKinds.{inputs_of}
use Rattle.layout_rules.specs.declared.layers.TheConstants.{INPUT_PIN}
use Rattle.layout_rules.specs.Reports.{PassTogether}
use Rattle.shape_extract.specs.Searches.{AreThose}
use Rattle.shape_extract.specs.Code.Cells.{holds_pin, AreNumbered}
use Rattle.shape_extract.proofs.Marked.{cell_by_outputs, no_cell, no_kind}
use Rattle.shape_extract.proofs.rules.cell_rule.is_cell.Goals as goal

pub returns-in_default : goal.returns-in_default
returns-in_default c = no_kind _ _ _
    (slice_get-get_or c.args.shapes.now c.args.f c.index-shapes-f.result c.requires.within) c.in_default.ensures

pub returns-then-are_numbered : goal.returns-then-are_numbered
returns-then-are_numbered c =
    let are : AreThose (PassTogether holds_pin c.args.shapes.now c.args.f) c.as_slice-pins.result.now =
    rw c.as_slice-pins.ensures.value c.in_ok-list_filed_partners.ensures in
    let ins : AreNumbered c.args.shapes.now c.as_slice-pins.result.now INPUT_PIN (inputs_of c.in-Some.kind) =
    rw c.inputs.ensures at c.if-are_numbered.ensures in
    cell_by_outputs _ _ _ (slice_get-get_or c.args.shapes.now c.args.f c.index-shapes-f.result c.requires.within)
    c.in-Some.kind c.in-Some.ensures _ are ins _ (rw c.outputs.ensures at c.are_numbered-then-are_numbered.ensures)

pub returns-else-are_numbered : goal.returns-else-are_numbered
returns-else-are_numbered c =
    let are : AreThose (PassTogether holds_pin c.args.shapes.now c.args.f) c.as_slice-pins.result.now =
    rw c.as_slice-pins.ensures.value c.in_ok-list_filed_partners.ensures in
    rw c.if-are_numbered.false
    (no_cell _ _ _ (slice_get-get_or c.args.shapes.now c.args.f c.index-shapes-f.result c.requires.within)
    c.in-Some.kind c.in-Some.ensures _ are (rw c.inputs.ensures at c.if-are_numbered.ensures))

pub list_filed_partners-requires-clause-planar : goal.list_filed_partners-requires-clause-planar
list_filed_partners-requires-clause-planar c = λ s t h. pin_pinned s t h
