use Rattle.gds_records.proofs.Found.{found_of_profile}
use Rattle.gds_records.proofs.laws.found_is_fault.Goals as goal

pub returns : goal.returns
returns c = found_of_profile
