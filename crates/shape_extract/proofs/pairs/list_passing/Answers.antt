use Rattle.std.proofs.Common.{sym, subst}
use Rattle.geom.specs.Near.{IsClose}
use Rattle.shape_extract.specs.Planes.{AreNearIn}
use Rattle.shape_extract.proofs.InPlanes.{all_within, passing_in_plane}
use Rattle.shape_extract.proofs.pairs.list_passing.Goals as goal

pub keep_kinds-requires : goal.keep_kinds-requires
keep_kinds-requires g c = all_within c.args.plane c.args.kinds.now c.args.first.now.rect c.reach.result
    c.list_near.new.found.items (c.in_ok-list_near.ensures c.args.kinds.now c.requires.planes)

pub returns : goal.returns
returns g c =
    let near : AreNearIn c.args.plane c.args.kinds.now c.args.first.now.rect c.reach.result
    c.list_near.new.found.items =
    c.in_ok-list_near.ensures c.args.kinds.now c.requires.planes in
    passing_in_plane (g.T.PairTest.passes c.args.test.now c.args.first.now) c.args.plane c.args.kinds.now
    c.args.first.now.rect c.reach.result c.list_near.new.found.items c.keep_kinds.new.places.items c.requires.planar
    (λ s proper h. subst (IsClose c.args.first.now.rect s.rect) (sym c.reach.ensures.reach)
    (c.reach.ensures.close c.args.first.now s c.known.ensures proper h))
    near c.keep_kinds.ensures
