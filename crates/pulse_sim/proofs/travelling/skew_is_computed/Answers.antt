use Rattle.pulse_sim.proofs.Furthest.{is_skew}
use Rattle.pulse_sim.proofs.Ahead.{are_ahead}
use Rattle.pulse_sim.proofs.Greater.{greater_of_both}
use Rattle.pulse_sim.proofs.travelling.skew_is_computed.Goals as goal

pub returns-clause-is : goal.returns-clause-is
returns-clause-is c = is_skew

pub returns-clause-ahead : goal.returns-clause-ahead
returns-clause-ahead c = are_ahead

pub returns-clause-greater : goal.returns-clause-greater
returns-clause-greater c = greater_of_both
