use Rattle.std.proofs.Common.{◌≡◌, drop}
use Rattle.placement_check.specs.Labels.{row_fits}
use Rattle.placement_check.proofs.labels.row_fits.Given as goal

abbrev pub invariant-loop-place : goal.invariant-loop-place
invariant-loop-place l = row_fits l.graph l.below (drop l.place l.cells) (drop l.place l.labels) ≡ row_fits l.graph
    l.below l.cells l.labels
