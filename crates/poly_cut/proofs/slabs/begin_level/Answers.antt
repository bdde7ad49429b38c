use Rattle.poly_cut.proofs.Openings.{slab_of, all_none, all_more, all_begun}
use Rattle.poly_cut.proofs.slabs.begin_level.Goals as goal

pub windows-init : goal.windows-init
windows-init c =
    all_none (slab_of c.args.ends.now c.args.walls.now c.args.level.now c.requires.rising c.requires.high)
    c.args.stack.now c.requires.standing c.requires.whole c.requires.low c.requires.reaches c.requires.clear

pub windows-preserved : goal.windows-preserved
windows-preserved c =
    let f = c.in_ok-from.ensures in
    all_more (slab_of c.args.ends.now c.args.walls.now c.args.level.now c.requires.rising c.requires.high)
    c.windows.invariant f.after f.whole f.more f.off

pub returns : goal.returns
returns c = all_begun (slab_of c.args.ends.now c.args.walls.now c.args.level.now c.requires.rising c.requires.high)
    c.requires.standing c.windows-test.false c.windows.invariant
