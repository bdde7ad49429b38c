use Rattle.std.proofs.Common.{◌+◌, ◌<◌, List, pos, length, drop, subst, arith}
use Rattle.poly_cut.specs.declared.ends.End.{End}
use Rattle.poly_cut.specs.Code.Sweeping.{end}
use Rattle.poly_cut.proofs.OffWindows.{Toggled}
use Rattle.poly_cut.proofs.TwoWalls.{two_more, toggled_two}
use Rattle.poly_cut.proofs.walls.toggle_all.Goals as goal

pub pairs-preserved : goal.pairs-preserved
pairs-preserved c =
    let lt : c.pairs.number + 1 < length c.args.ends.now = c.pairs-test.true in
    record {
      within = omega (arith, lt);
      toggled =
          toggled_two c.pairs.walls.items (drop (c.pairs.number + 2) c.args.ends.now) c.args.walls.now.items
          c.args.ends.now _ _ c.toggle_two.new.walls.items
          (subst (λ (l : List End). Toggled c.pairs.walls.items l c.args.walls.now.items c.args.ends.now)
          (two_more c.args.ends.now c.pairs.number (end (pos 0) (pos 0)) lt) c.pairs.invariant.toggled)
          c.in_ok-toggle_two.ensures;
    }
