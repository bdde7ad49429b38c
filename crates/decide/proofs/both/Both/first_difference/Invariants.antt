use Rattle.std.proofs.Common.{ℕ, ◌<◌}
use Rattle.decide.specs.Code.Outputs.{IsShared}
use Rattle.decide.proofs.both.Both.first_difference.Given as goal

abbrev pub invariant-loop-output : goal.invariant-loop-output
invariant-loop-output l = (k : ℕ) → k < l.output
    → IsShared l.self.first.items l.outputs l.self.second.items l.other_outputs k
