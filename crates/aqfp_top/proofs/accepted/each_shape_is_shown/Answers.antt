use Rattle.aqfp_top.proofs.OneStream.{one_layout, not_both}
use Rattle.aqfp_top.proofs.Accepting.{shapes_well, shapes_end}
use Rattle.aqfp_top.proofs.accepted.each_shape_is_shown.Goals as goal

pub returns-clause-ends : goal.returns-clause-ends
returns-clause-ends c = shapes_end

pub returns-clause-well : goal.returns-clause-well
returns-clause-well c =
    shapes_well (one_layout c.one_wide_reading.ensures.layout) c.count_is_exact.ensures
    (not_both c.one_wide_reading.ensures.no_fault c.one_wide_reading.ensures.one_fault)
