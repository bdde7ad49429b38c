use Rattle.std.proofs.Common.{◌≡◌, List, take, sym, subst, arith}
use Rattle.std.proofs.lemmas.Grind.{common_steps}
use Rattle.aq_base.specs.History.{Event, took}
use Rattle.aq_base.specs.Pipes.{calls_of}
use Rattle.aq_base.specs.Puts.{Puts}
use Rattle.aq_base.proofs.Putting.{puts-flushed}
use Rattle.aq_base.proofs.std_sink.StdSinkSink.put.Goals as goal

pub invariant_of-self-clause-honest : goal.invariant_of-self-clause-honest
invariant_of-self-clause-honest g c =
    let heard : c.appended.new.self.events
    ≡ took (take c.write_all-count.result c.args.piece.now) c.args.self.now.history.events =
    grind (arith, common_steps) in
    subst (λ (events : List Event). ∥ Puts (calls_of c.flush-flushed.new.self) events ∥₁) (sym heard)
    (puts-flushed c.args.piece.now c.write_all-count.result _ _ _ c.args.self.now.history.events
    c.write_all-count.ensures.calls c.if-flushed.ensures.noted c.args.self.now.honest)
