use Rattle.shown_names.proofs.Beginnings.{beginning_bound, beginning_whole, beginning_longest}
use Rattle.shown_names.proofs.laws.beginnings_are_the_longest.Goals as goal

pub returns-clause-bound : goal.returns-clause-bound
returns-clause-bound c = beginning_bound

pub returns-clause-whole : goal.returns-clause-whole
returns-clause-whole c = beginning_whole

pub returns-clause-longest : goal.returns-clause-longest
returns-clause-longest c = beginning_longest
