use Rattle.gds_records.proofs.Found.{no_fault}
use Rattle.gds_records.proofs.laws.no_fault_is_stream.Goals as goal

pub returns : goal.returns
returns c = no_fault
