use Rattle.shown_names.proofs.Showing.{name_puts_none}
use Rattle.shown_names.proofs.laws.lines_stay_one.Goals as goal

pub returns : goal.returns
returns c = name_puts_none
