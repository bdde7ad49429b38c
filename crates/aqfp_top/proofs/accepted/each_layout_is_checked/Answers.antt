use Rattle.aqfp_top.specs.Designs.{stream_of}
use Rattle.aqfp_top.proofs.OneStream.{one_layout, not_both}
use Rattle.aqfp_top.proofs.Accepting.{judged_well, check_ends}
use Rattle.aqfp_top.proofs.accepted.each_layout_is_checked.Goals as goal

pub returns-clause-built : goal.returns-clause-built
returns-clause-built c lib text net chip cells says is given =
    let verified = c.built_is_verified.ensures.verified lib text net chip cells says is given in
    judged_well (one_layout c.one_wide_reading.ensures.layout) c.count_is_exact.ensures
    (not_both c.one_wide_reading.ensures.no_fault c.one_wide_reading.ensures.one_fault) c.one_circuit.ensures
    (stream_of chip cells) lib text verified.sound

pub returns-clause-ends : goal.returns-clause-ends
returns-clause-ends c = check_ends

pub returns-clause-well : goal.returns-clause-well
returns-clause-well c =
    judged_well (one_layout c.one_wide_reading.ensures.layout) c.count_is_exact.ensures
    (not_both c.one_wide_reading.ensures.no_fault c.one_wide_reading.ensures.one_fault) c.one_circuit.ensures
