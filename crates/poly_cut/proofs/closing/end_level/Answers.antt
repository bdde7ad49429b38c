use Rattle.poly_cut.proofs.Endings.{no_window, one_window, all_windows}
use Rattle.poly_cut.proofs.closing.end_level.Goals as goal

pub windows-init : goal.windows-init
windows-init c = no_window c.args.ends.now c.args.walls.now c.args.level.now.y c.args.last.now c.args.rects.now
    c.requires.standing c.requires.low

pub windows-preserved : goal.windows-preserved
windows-preserved c = one_window c.windows.number c.args.ends.now c.args.walls.now c.args.level.now.y c.args.last.now
    c.args.rects.now c.windows.rects c.end_window.new.rects c.windows.invariant c.end_window.ensures

pub returns : goal.returns
returns c = all_windows c.windows.number c.args.ends.now c.args.walls.now c.args.level.now.y c.args.last.now
    c.args.rects.now c.windows.rects c.windows-test.false c.windows.invariant
