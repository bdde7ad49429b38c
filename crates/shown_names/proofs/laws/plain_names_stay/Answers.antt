use Rattle.shown_names.proofs.Showing.{name_stays}
use Rattle.shown_names.proofs.laws.plain_names_stay.Goals as goal

pub returns : goal.returns
returns c = name_stays
