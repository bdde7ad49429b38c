use Rattle.plan_build.proofs.Given.{GivesRows, GivesPlaces, drawn_given}
use Rattle.bench_plans.proofs.bench.Bench.lay_out.Goals as goal

-- the four passes gave the chip one after the other
pub draw-requires : goal.draw-requires
draw-requires g c =
    let l = c.args.cells.now in
    let net = c.args.net.now in
    let plan = c.in_ok-plan.plan in
    let made = c.in_ok-plan.ensures in
    let rows : GivesRows l plan net made c.in_ok-rows.rows =
    (c.in_ok-gates.gates, c.in_ok-gates.ensures, c.in_ok-rows.ensures)
    in
    let places : GivesPlaces l plan net made c.in_ok-placed.placed =
    (c.in_ok-rows.rows, rows, c.in_ok-placed.ensures)
    in
    drawn_given l plan net made c.known.ensures.library c.in_ok-chip.chip
    (c.in_ok-placed.placed, places, c.in_ok-chip.ensures)
