use Rattle.std.proofs.Common.{ℕ, ◌<◌}
use Rattle.decide.specs.Code.Orders.{StandsAt}
use Rattle.decide.proofs.order.undoes.Given as goal

abbrev pub invariant-loop-input : goal.invariant-loop-input
invariant-loop-input l = (k : ℕ) → k < l.input → StandsAt l.order l.rank k
