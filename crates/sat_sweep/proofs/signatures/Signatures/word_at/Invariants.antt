use Rattle.std.proofs.Common.{◌≡◌, length}
use Rattle.sat_sweep.proofs.signatures.Signatures.word_at.Given as goal

abbrev pub invariant-loop-input : goal.invariant-loop-input
invariant-loop-input l = length l.word.items ≡ l._input
