use Rattle.aqfp_top.proofs.OneStream.{one_layout, not_both}
use Rattle.aqfp_top.proofs.Accepting.{pair_well}
use Rattle.aqfp_top.proofs.accepted.each_pair_is_compared.Goals as goal

pub returns : goal.returns
returns c =
    pair_well (one_layout c.one_wide_reading.ensures.layout) c.count_is_exact.ensures
    (not_both c.one_wide_reading.ensures.no_fault c.one_wide_reading.ensures.one_fault) c.one_circuit.ensures
