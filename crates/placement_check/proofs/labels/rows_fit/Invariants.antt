use Rattle.std.proofs.Common.{◌≡◌, [], drop}
use Rattle.placement_check.specs.Labels.{rows_fit_from}
use Rattle.placement_check.proofs.labels.rows_fit.Given as goal

abbrev pub invariant-loop-number : goal.invariant-loop-number
invariant-loop-number l = rows_fit_from l.graph l.below (drop l.number l.rows) (drop l.number l.labels) ≡ rows_fit_from
    l.graph [] l.rows l.labels
