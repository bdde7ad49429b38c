use Rattle.std.proofs.Common.{◌≡◌, length}
use Rattle.blif_read.specs.Lines.{tokens_of}
use Rattle.blif_read.proofs.token_list.token_in.Given as goal

abbrev pub invariant-loop-at : goal.invariant-loop-at
invariant-loop-at l = tokens_of l.rest ≡ tokens_of l.line

abbrev pub decreases-loop-at : goal.decreases-loop-at
decreases-loop-at l = length l.rest
