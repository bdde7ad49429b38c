use Rattle.layout_rules.proofs.OtherChips.{moved_via}
use Rattle.layout_rules.proofs.laws.moved_via_breaks_enclosure.Goals as goal

pub returns : goal.returns
returns c = moved_via
