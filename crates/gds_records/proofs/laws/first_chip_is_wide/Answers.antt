use Rattle.gds_records.proofs.WideRows.{first_is_wide, first_flat_is}
use Rattle.gds_records.proofs.laws.first_chip_is_wide.Goals as goal

pub returns-clause-fault : goal.returns-clause-fault
returns-clause-fault c = first_is_wide

pub returns-clause-flat : goal.returns-clause-flat
returns-clause-flat c = first_flat_is
