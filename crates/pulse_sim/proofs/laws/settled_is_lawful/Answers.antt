use Rattle.pulse_sim.proofs.Settling.{lawful, exists, one_state, legal, settled, only}
use Rattle.pulse_sim.proofs.laws.settled_is_lawful.Goals as goal

pub returns-clause-lawful : goal.returns-clause-lawful
returns-clause-lawful c = lawful

pub returns-clause-exists : goal.returns-clause-exists
returns-clause-exists c = λ circuit word time old keeps long. exists circuit keeps word time old long

pub returns-clause-any_order : goal.returns-clause-any_order
returns-clause-any_order c =
    λ circuit word time old new keeps long tick. one_state circuit keeps word time old long new tick

pub returns-clause-legal : goal.returns-clause-legal
returns-clause-legal c = λ circuit words n keeps. legal circuit keeps words n

pub returns-clause-settled : goal.returns-clause-settled
returns-clause-settled c = λ circuit words n keeps. settled circuit keeps words n

pub returns-clause-only : goal.returns-clause-only
returns-clause-only c = λ circuit words n run keeps is t le. only circuit keeps words n run is t le
