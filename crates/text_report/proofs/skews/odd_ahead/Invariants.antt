use Rattle.std.proofs.Common.{◌≡◌, drop}
use Rattle.std.specs.Prelude.{max}
use Rattle.pulse_sim.specs.Travelling.{odd_beyond, most_from}
use Rattle.shape_extract.specs.CellPlaces.{near_at, far_at}
use Rattle.text_report.proofs.skews.odd_ahead.Given as goal

abbrev pub invariant-loop-c : goal.invariant-loop-c
invariant-loop-c l =
    max l.most (most_from (odd_beyond (near_at l.spans) (far_at l.spans)) (near_at l.spans) (far_at l.spans) l.c
    (drop l.c l.cells))
    ≡ most_from (odd_beyond (near_at l.spans) (far_at l.spans)) (near_at l.spans) (far_at l.spans) 0 l.cells
