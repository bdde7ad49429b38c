use Rattle.text_answers.proofs.Reading.{lines_fit, waiting_at, runs_on}
use Rattle.text_answers.proofs.run.Run.tick.Goals as goal

pub enter-is_given-requires : goal.enter-is_given-requires
enter-is_given-requires c = lines_fit _ _ _ _ _ _ c.self.invariant.waiting

pub give-requires-clause-wide : goal.give-requires-clause-wide
give-requires-clause-wide c =
    (c.enter-is_given.ensures c.self.inside.text.now c.self.inside.pulses.circuit.inputs
    (waiting_at _ _ _ _ _ _ _ c.time-time.ensures c.self.invariant.waiting)).buffer

pub invariant_of-self : goal.invariant_of-self
invariant_of-self c = runs_on _ _ _ _ c.time-time.result c.self.inside.pulses c.give.new.pulses c.time-time.ensures
    (c.enter-is_given.ensures c.self.inside.text.now c.self.inside.pulses.circuit.inputs
    (waiting_at _ _ _ _ _ _ _ c.time-time.ensures c.self.invariant.waiting))
    c.self.invariant.settled c.give.ensures
