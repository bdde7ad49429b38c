use Rattle.blif_read.proofs.Cycles.{first_is_cycle}
use Rattle.blif_read.proofs.laws.each_cycle.Goals as goal

pub returns : goal.returns
returns c = first_is_cycle
