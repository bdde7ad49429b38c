use Rattle.std.proofs.Common.{[]}
use Rattle.placement_check.proofs.WideLengths.{none_marked}
use Rattle.placement_check.proofs.widening.rows_marked.Goals as goal

pub returns-then-rows-marks : goal.returns-then-rows-marks
returns-then-rows-marks c = none_marked c.args.net.now c.args.became.now c.args.places.now 0 [] c.args.rows.now
    c.args.marks.now c.if-rows-marks.true
