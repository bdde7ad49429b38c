use Rattle.std.proofs.Common.{sym, subst}
use Rattle.geom.proofs.Filing.{read_at}
use Rattle.geom.specs.Rectangle.{AreProper}
use Rattle.geom.specs.Near.{rects_of, AreNear, IsClose}
use Rattle.shape_extract.proofs.Partners.{partners_are, near_within}
use Rattle.shape_extract.proofs.pairs.list_partners.Goals as goal

pub keep_passing-requires : goal.keep_passing-requires
keep_passing-requires g c =
    let are : AreNear (rects_of c.args.shapes.now) c.index-shapes-a.result.rect c.reach.result
    c.list_near.new.found.items = rw c.requires.filed at c.in_ok-list_near.ensures in
    near_within _ _ _ _ are

pub returns : goal.returns
returns g c =
    let are : AreNear (rects_of c.args.shapes.now) c.index-shapes-a.result.rect c.reach.result
    c.list_near.new.found.items = rw c.requires.filed at c.in_ok-list_near.ensures in
    partners_are (g.T.PairTest.passes c.args.test.now) c.args.shapes.now c.args.a c.index-shapes-a.result
    c.reach.result _ _ (read_at _ _ _ c.requires.within c.index-shapes-a.is)
    (λ s t p q h. subst (IsClose s.rect t.rect) (sym c.reach.ensures.reach) (c.reach.ensures.close s t p q h))
    (subst AreProper c.requires.filed c.known.ensures) are c.keep_passing.ensures
