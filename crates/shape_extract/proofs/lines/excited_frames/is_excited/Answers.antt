use Rattle.shape_extract.proofs.InPlanes.{over_line}
use Rattle.std.proofs.Common.{◌≡◌, ◌≢◌, ◌<◌, ◌∙◌, length, arith, sym}
use Rattle.std.proofs.lemmas.Grind.{get_or_default_zero}
use Rattle.std.proofs.lemmas.Option.{same_Some}
use Rattle.std.specs.Prelude.{slice_index}
use Rattle.layout_rules.specs.Reports.{PassTogether}
use Rattle.shape_extract.specs.Searches.{AreThose}
use Rattle.shape_extract.specs.Code.Lines.{lies_over}
use Rattle.shape_extract.proofs.Searching.{together_within}
use Rattle.shape_extract.proofs.Marked.{got_at}
use Rattle.shape_extract.proofs.ExcitedEach.{not_one_over, one_over, edge_among}
use Rattle.shape_extract.proofs.lines.excited_frames.is_excited.Goals as goal

pub returns-then-len-ne1 : goal.returns-then-len-ne1
returns-then-len-ne1 c = λ frame got.
    let ne : length c.list_line_partners.new.found.items ≢ 1 = λ e. c.if-len-ne1.true (omega arith) in
    not_one_over c.args.shapes.now c.args.f c.list_line_partners.new.found.items
    c.in_ok-list_line_partners.ensures frame got ne

pub excites-requires-clause-within : goal.excites-requires-clause-within
excites-requires-clause-within c =
    let one : length c.list_line_partners.new.found.items ≡ 1 = omega arith in
    let lt : 0 < length c.list_line_partners.new.found.items = omega arith in
    let is : c.index.result.now ≡ slice_index c.list_line_partners.new.found.items 0 = c.index.ensures
    ∙ get_or_default_zero c.list_line_partners.new.found.items 0 c.index.result.now lt in
    let are : AreThose (PassTogether lies_over c.args.shapes.now c.args.f) c.list_line_partners.new.found.items =
    c.in_ok-list_line_partners.ensures in
    let within : slice_index c.list_line_partners.new.found.items 0 < length c.args.shapes.now =
    together_within lies_over c.args.shapes.now c.args.f _ (are.each 0 lt) in
    omega arith

pub excites-requires-clause-among : goal.excites-requires-clause-among
excites-requires-clause-among c = edge_among _ _ _ _ c.requires.rows c.requires.frame
    (got_at _ _ _ c.requires.within c.index-shapes-f.is)

pub returns : goal.returns
returns c = λ frame got.
    let one : length c.list_line_partners.new.found.items ≡ 1 = omega arith in
    let is : c.index.result.now ≡ slice_index c.list_line_partners.new.found.items 0 = c.index.ensures
    ∙ get_or_default_zero c.list_line_partners.new.found.items 0 c.index.result.now (omega arith) in
    let same : c.index-shapes-f.result ≡ frame = same_Some c.index-shapes-f.result frame
    (sym (got_at _ _ _ c.requires.within c.index-shapes-f.is) ∙ got) in
    one_over c.args.shapes.now c.args.f c.list_line_partners.new.found.items c.in_ok-list_line_partners.ensures frame
    got one c.index.result.now (sym is) c.excites.result
    (rw same at c.excites.ensures)

pub list_line_partners-requires-clause-planar : goal.list_line_partners-requires-clause-planar
list_line_partners-requires-clause-planar c = λ s t h. over_line s t h
