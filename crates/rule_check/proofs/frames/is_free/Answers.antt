use Rattle.std.proofs.Common.{◌≡◌, List, true, Some, subst, sym, ap, ◌∙◌, arith}
use Rattle.std.specs.Prelude.{slice_get}
use Rattle.std.proofs.lemmas.Option.{same_Some}
use Rattle.std.proofs.lemmas.Bool.{not-true}
use Rattle.shape_extract.proofs.Partners.{near_within}
use Rattle.geom.proofs.Filing.{read_at}
use Rattle.layout_rules.specs.Layers.{is_frame}
use Rattle.geom.specs.declared.shapes.Shape.{Shape}
use Rattle.geom.specs.Rectangle.{Rectangle, IsProper}
use Rattle.geom.specs.Near.{rects_of, AreNear}
use Rattle.rule_check.specs.Code.Bands.{band_of, collide_across}
use Rattle.rule_check.specs.Code.Cover.{any_at}
use Rattle.rule_check.proofs.Colliding.{frame_free, own_overlap}
use Rattle.rule_check.proofs.frames.is_free.Goals as goal

pub any_across-requires : goal.any_across-requires
any_across-requires c =
    let are : AreNear (rects_of c.args.rows.now.bands.now) c.band_of-band.result.rect 0 c.list_near.new.found.items =
    subst (λ (rects : List Rectangle). AreNear rects c.band_of-band.result.rect 0 c.list_near.new.found.items)
    c.requires.rows.bands_filed c.in_ok-list_near.ensures in
    rw c.as_slice.ensures.value
    (near_within c.args.rows.now.bands.now c.band_of-band.result.rect 0 c.list_near.new.found.items are)

pub returns : goal.returns
returns c free =
    let s : Shape = c.index-rows-a.result in
    let got : slice_get c.args.rows.now.shapes.now c.args.a ≡ Some s =
    read_at _ _ _ c.requires.within c.index-rows-a.is in
    let frame_so : is_frame s ≡ true =
    ap is_frame (same_Some s c.requires.frame.shape (sym got ∙ c.requires.frame.shape_is))
    ∙ c.requires.frame.passes_so in
    let are : AreNear (rects_of c.args.rows.now.bands.now) c.band_of-band.result.rect 0 c.list_near.new.found.items =
    subst (λ (rects : List Rectangle). AreNear rects c.band_of-band.result.rect 0 c.list_near.new.found.items)
    c.requires.rows.bands_filed c.in_ok-list_near.ensures in
    let near : AreNear (rects_of c.args.rows.now.bands.now) (band_of s).rect 0 c.as_slice.result.now =
    rw c.as_slice.ensures.value
    (subst (λ (band : Shape). AreNear (rects_of c.args.rows.now.bands.now) band.rect 0 c.list_near.new.found.items)
    (c.band_of-band.ensures ∙ ap band_of (sym c.index-rows-a.is)) are) in
    let across : c.any_across.result
    ≡ any_at (λ (band : Shape). collide_across s.rect band.rect) c.args.rows.now.bands.now c.as_slice.result.now =
    subst (λ (t : Shape). c.any_across.result
    ≡ any_at (λ (band : Shape). collide_across t.rect band.rect) c.args.rows.now.bands.now c.as_slice.result.now)
    (sym c.index-rows-a.is) c.any_across.ensures in
    frame_free c.args.rows.now.shapes.now c.args.rows.now.bands.now c.args.a s c.as_slice-partners.result.now
    c.as_slice.result.now got frame_so c.requires.rows.bands_so
    (rw c.as_slice-partners.ensures.value c.in_ok-list_partners.ensures) (omega arith) near
    (sym across ∙ not-true c.any_across.result free)
    (own_overlap s.rect (subst (λ (t : Shape). IsProper t.rect) (sym c.index-rows-a.is) c.known.ensures))
