use Rattle.aqfp_top.proofs.OneStream.{one_layout, not_both}
use Rattle.aqfp_top.proofs.Accepting.{circuit_well, circuit_ends}
use Rattle.aqfp_top.proofs.accepted.each_netlist_is_written.Goals as goal

pub returns-clause-ends : goal.returns-clause-ends
returns-clause-ends c = circuit_ends

pub returns-clause-well : goal.returns-clause-well
returns-clause-well c =
    circuit_well (one_layout c.one_wide_reading.ensures.layout) c.count_is_exact.ensures
    (not_both c.one_wide_reading.ensures.no_fault c.one_wide_reading.ensures.one_fault)
