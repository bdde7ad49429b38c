use Rattle.std.proofs.Common.{◌≡◌, [], ◌∷◌, ◌++◌}
use Rattle.pulse_sim.proofs.InPlace.{listed_more, listed_same, listed_all}
use Rattle.pulse_sim.proofs.pulses.cells_in_phase.Goals as goal
use Rattle.pulse_sim.proofs.pulses.cells_in_phase.Goals.{then-cell-phase+in_ok-push, else-cell-phase}

pub loop-number-preserved : goal.loop-number-preserved
loop-number-preserved c = elim c.if-cell-phase.branch [
  | then-cell-phase+in_ok-push w ↦
      let longer : w.push.new.self.items ≡ c.loop-number.numbers.items ++ (c.loop-number.number ∷ []) =
      w.in_ok-push.ensures.items in
      rw (w.numbers-is, longer)
      (listed_more _ _ _ _ _ c.loop-number.invariant c.loop-number-test.true w.if-cell-phase.true)
  | else-cell-phase w ↦ rw w.numbers-is (listed_same _ _ _ _ _ c.loop-number.invariant w.if-cell-phase.false)
]

pub returns : goal.returns
returns c = rw c.from_vec.ensures (listed_all _ _ _ _ c.loop-number-test.false c.loop-number.invariant)
