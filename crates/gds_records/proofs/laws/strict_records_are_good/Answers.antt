use Rattle.gds_records.proofs.WiderRecords.{records_within}
use Rattle.gds_records.proofs.laws.strict_records_are_good.Goals as goal

pub returns : goal.returns
returns c = records_within c.rectangles_are_rings.ensures.ring
