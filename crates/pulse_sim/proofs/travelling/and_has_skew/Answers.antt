use Rattle.std.proofs.Common.{ℕ, suc, ◌≤◌, zero, refl, arith}
use Rattle.pulse_sim.specs.AndChip.{and_circuit, and_near, and_far}
use Rattle.pulse_sim.proofs.travelling.and_has_skew.Goals as goal

beyond : (c : ℕ) → 5 ≤ c → and_far c ≤ and_near c
beyond zero le = absurd (omega arith)
beyond (suc zero) le = absurd (omega arith)
beyond (suc (suc zero)) le = absurd (omega arith)
beyond (suc (suc (suc zero))) le = absurd (omega arith)
beyond (suc (suc (suc (suc zero)))) le = absurd (omega arith)
beyond (suc (suc (suc (suc (suc c))))) le = omega arith

pub returns-clause-skew : goal.returns-clause-skew
unfolding and_circuit
returns-clause-skew c = c.skew_is_computed.ensures.is and_circuit and_near and_far beyond

pub returns-clause-even : goal.returns-clause-even
unfolding and_circuit
returns-clause-even c = refl

pub returns-clause-odd : goal.returns-clause-odd
unfolding and_circuit
returns-clause-odd c = refl
