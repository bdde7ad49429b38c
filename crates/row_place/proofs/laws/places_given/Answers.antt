use Rattle.row_place.proofs.PlanGiven.{given_unless_refused}
use Rattle.row_place.proofs.laws.places_given.Goals as goal

pub returns : goal.returns
returns c = given_unless_refused
