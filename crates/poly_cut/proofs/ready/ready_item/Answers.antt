use Rattle.std.proofs.Common.{sym, length, ◌∙◌}
use Rattle.poly_cut.proofs.Readying.{placed_nothing, drawing}
use Rattle.poly_cut.proofs.ready.ready_item.Goals as goal

pub returns-then-not-mark_at : goal.returns-then-not-mark_at
returns-then-not-mark_at c =
    placed_nothing c.args.structures.now c.args.marks.now c.args.item.now c.in-Place.structure c.in-Place.at
    c.in-Place.turn c.in-Place.grid
    c.in-Place.is c.requires.marks (sym c.mark_at.ensures ∙ c.if-not-mark_at.true)

pub returns-in_ok-drawn-in-Draw : goal.returns-in_ok-drawn-in-Draw
returns-in_ok-drawn-in-Draw c =
    drawing (length c.args.structures.now) c.in-Draw.layer c.in-Draw.datatype c.in-Draw.figure c.args.item.now _
    c.in-Draw.is
    c.in_ok-drawn-in-Draw.ensures
