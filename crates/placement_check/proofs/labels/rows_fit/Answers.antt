use Rattle.std.proofs.Common.{[]}
use Rattle.placement_check.proofs.Lengths.{none_labelled}
use Rattle.placement_check.proofs.labels.rows_fit.Goals as goal

pub returns-then-rows-labels : goal.returns-then-rows-labels
returns-then-rows-labels c = none_labelled c.args.graph.now [] c.args.rows.now c.args.labels.now c.if-rows-labels.true
