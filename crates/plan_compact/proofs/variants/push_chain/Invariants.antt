use Rattle.plan_compact.specs.Variants.{AreGraphsOf}
use Rattle.plan_compact.proofs.variants.push_chain.Given as goal

abbrev pub invariant-loop-turn : goal.invariant-loop-turn
invariant-loop-turn l = AreGraphsOf l.net l.graphs.items
