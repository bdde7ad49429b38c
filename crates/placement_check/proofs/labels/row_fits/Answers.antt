use Rattle.placement_check.proofs.Lengths.{unlabelled}
use Rattle.placement_check.proofs.labels.row_fits.Goals as goal

pub returns-then-cells-labels : goal.returns-then-cells-labels
returns-then-cells-labels c = unlabelled c.args.graph.now c.args.below.now c.args.cells.now c.args.labels.now
    c.if-cells-labels.true
