use Rattle.std.proofs.Common.{◌≡◌, length}
use Rattle.sat_sweep.proofs.some_difference.word_of.Given as goal

abbrev pub invariant-loop-input : goal.invariant-loop-input
invariant-loop-input l = length l.word ≡ l._input
