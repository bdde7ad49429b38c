use Rattle.gds_records.proofs.Found.{fault_found}
use Rattle.gds_records.proofs.laws.fault_is_found.Goals as goal

pub returns : goal.returns
returns c = fault_found
