use Rattle.std.proofs.Common.{sym, subst}
use Rattle.geom.proofs.Filing.{read_at}
use Rattle.geom.specs.Near.{IsClose}
use Rattle.shape_extract.specs.Planes.{AreNearIn}
use Rattle.shape_extract.specs.declared.planes.Plane.TheVariants.{Lines}
use Rattle.shape_extract.proofs.InPlanes.{all_within, passing_in_plane}
use Rattle.shape_extract.proofs.Members.{together_from}
use Rattle.shape_extract.proofs.pairs.list_line_partners.Goals as goal

pub keep_passing-requires : goal.keep_passing-requires
keep_passing-requires g c = all_within Lines c.args.shapes.now c.index-shapes-a.result.rect c.reach.result
    c.list_near.new.found.items (c.in_ok-list_near.ensures Lines c.args.shapes.now c.requires.filed)

pub returns : goal.returns
returns g c =
    let near : AreNearIn Lines c.args.shapes.now c.index-shapes-a.result.rect c.reach.result
    c.list_near.new.found.items =
    c.in_ok-list_near.ensures Lines c.args.shapes.now c.requires.filed in
    together_from (g.T.PairTest.passes c.args.test.now) c.args.shapes.now c.args.a c.index-shapes-a.result
    c.keep_passing.new.numbers.items (read_at _ _ _ c.requires.within c.index-shapes-a.is)
    (passing_in_plane (g.T.PairTest.passes c.args.test.now c.index-shapes-a.result) Lines c.args.shapes.now
    c.index-shapes-a.result.rect c.reach.result c.list_near.new.found.items c.keep_passing.new.numbers.items
    (c.requires.planar c.index-shapes-a.result)
    (λ s proper h. subst (IsClose c.index-shapes-a.result.rect s.rect) (sym c.reach.ensures.reach)
    (c.reach.ensures.close c.index-shapes-a.result s c.known.ensures proper h))
    near c.keep_passing.ensures)
