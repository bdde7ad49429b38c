use Rattle.repeater_rows.proofs.Given.{given_unless_refused}
use Rattle.repeater_rows.proofs.laws.repeaters_given.Goals as goal

pub returns : goal.returns
returns c = given_unless_refused
