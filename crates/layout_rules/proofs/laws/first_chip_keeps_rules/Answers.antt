use Rattle.layout_rules.proofs.FirstChipKeeps.{all_kept}
use Rattle.layout_rules.proofs.laws.first_chip_keeps_rules.Goals as goal

pub returns : goal.returns
returns c = all_kept
