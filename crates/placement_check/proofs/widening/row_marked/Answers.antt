use Rattle.placement_check.proofs.WideLengths.{unmarked}
use Rattle.placement_check.proofs.widening.row_marked.Goals as goal

pub returns-then-cells-marks : goal.returns-then-cells-marks
returns-then-cells-marks c =
    let below = c.args.below.now in
    unmarked below.net.now below.became.now below.places.now below.number below.marks.now 0 c.args.cells.now
    c.args.marks.now c.if-cells-marks.true
