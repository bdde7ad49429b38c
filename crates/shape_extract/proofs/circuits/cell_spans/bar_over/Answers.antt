use Rattle.std.proofs.Common.{◌≡◌, ◌<◌, ◌∙◌, length, arith, sym, subst}
use Rattle.std.proofs.lemmas.Grind.{get_or_default_zero}
use Rattle.std.specs.Prelude.{slice_index}
use Rattle.layout_rules.specs.Reports.{PassTogether}
use Rattle.shape_extract.specs.Searches.{AreThose}
use Rattle.shape_extract.specs.Code.Lines.{lies_over}
use Rattle.shape_extract.specs.Code.Ways.{IsUnder}
use Rattle.shape_extract.proofs.InPlanes.{over_line}
use Rattle.shape_extract.proofs.FrameSpans.{some_over, first_under}
use Rattle.shape_extract.proofs.circuits.cell_spans.bar_over.Goals as goal

pub list_line_partners-requires-clause-planar : goal.list_line_partners-requires-clause-planar
list_line_partners-requires-clause-planar c = λ s t h. over_line s t h

pub index-requires : goal.index-requires
index-requires c =
    let some : 0 < length c.list_line_partners.new.found.items =
    some_over c.args.shapes.now c.requires.kept c.args.before.now c.requires.walked c.args.f c.requires.frame
    c.list_line_partners.new.found.items c.in_ok-list_line_partners.ensures in
    omega arith

pub returns : goal.returns
returns c =
    let are : AreThose (PassTogether lies_over c.args.shapes.now c.args.f) c.list_line_partners.new.found.items =
    c.in_ok-list_line_partners.ensures in
    let some : 0 < length c.list_line_partners.new.found.items =
    some_over c.args.shapes.now c.requires.kept c.args.before.now c.requires.walked c.args.f c.requires.frame
    c.list_line_partners.new.found.items are in
    let is : c.index.result.now ≡ slice_index c.list_line_partners.new.found.items 0 = c.index.ensures
    ∙ get_or_default_zero _ _ _ some in
    subst (IsUnder c.args.shapes.now c.args.before.now c.args.f) (sym is)
    (first_under c.args.shapes.now c.requires.kept c.args.before.now c.requires.walked c.args.f c.requires.frame
    c.list_line_partners.new.found.items are)
