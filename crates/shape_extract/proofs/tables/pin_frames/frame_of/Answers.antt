use Rattle.shape_extract.proofs.InPlanes.{frame_framed}
use Rattle.std.proofs.Common.{◌≡◌, ◌∙◌, ◌<◌, length, arith}
use Rattle.std.proofs.lemmas.Grind.{get_or_default_zero}
use Rattle.std.specs.Prelude.{slice_index}
use Rattle.shape_extract.proofs.PinFrames.{some_frame, first_lies}
use Rattle.shape_extract.proofs.tables.pin_frames.frame_of.Goals as goal

pub index-requires : goal.index-requires
index-requires c = omega (
  arith,
  some_frame c.args.shapes.now c.args.p c.requires.kept c.requires.pin
      c.list_filed_partners.new.found.items c.in_ok-list_filed_partners.ensures,
)

pub returns : goal.returns
returns c =
    let some : 0 < length c.list_filed_partners.new.found.items =
    some_frame c.args.shapes.now c.args.p c.requires.kept c.requires.pin c.list_filed_partners.new.found.items
    c.in_ok-list_filed_partners.ensures in
    let is : c.index.result.now ≡ slice_index c.list_filed_partners.new.found.items 0 = c.index.ensures
    ∙ get_or_default_zero _ _ _ some in
    rw is (first_lies c.args.shapes.now c.args.p c.requires.kept c.requires.pin c.list_filed_partners.new.found.items
    c.in_ok-list_filed_partners.ensures)

pub list_filed_partners-requires-clause-planar : goal.list_filed_partners-requires-clause-planar
list_filed_partners-requires-clause-planar c = λ s t h. frame_framed s t h
