use Rattle.gds_records.proofs.Found.{whole_of_profile}
use Rattle.gds_records.proofs.laws.whole_is_read.Goals as goal

pub returns : goal.returns
returns c = whole_of_profile
