use Rattle.gds_records.proofs.Told.{profile_told}
use Rattle.gds_records.proofs.laws.steps_tell_scan.Goals as goal

pub returns : goal.returns
returns c = profile_told
