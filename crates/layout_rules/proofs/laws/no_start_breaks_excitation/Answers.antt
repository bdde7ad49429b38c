use Rattle.layout_rules.proofs.OtherChips.{no_starts}
use Rattle.layout_rules.proofs.laws.no_start_breaks_excitation.Goals as goal

pub returns : goal.returns
returns c = no_starts
