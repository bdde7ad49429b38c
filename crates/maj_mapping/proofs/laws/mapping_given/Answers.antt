use Rattle.maj_mapping.proofs.MappingGiven.{mapping_given}
use Rattle.maj_mapping.proofs.laws.mapping_given.Goals as goal

pub returns : goal.returns
returns c = mapping_given
