use Rattle.gds_records.proofs.Loops.{endless, no_loop}
use Rattle.gds_records.proofs.laws.loops_are_long.Goals as goal

pub returns-clause-long : goal.returns-clause-long
returns-clause-long c = endless

pub returns-clause-none : goal.returns-clause-none
returns-clause-none c = no_loop
