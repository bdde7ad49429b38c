use Rattle.std.proofs.Common.{◌≡◌, ◌∷◌, length}
use Rattle.gds_read.specs.Code.Sequences.{follow}
use Rattle.gds_read.proofs.sequence.follow.Given as goal

abbrev pub invariant-parts : goal.invariant-parts
invariant-parts l = follow l.kind (l.front ∷ l.behind) ≡ follow l.kind (l.sequence.front ∷ l.sequence.behind.now)

abbrev pub decreases-parts : goal.decreases-parts
decreases-parts l = length l.behind
