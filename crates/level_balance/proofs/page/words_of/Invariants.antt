use Rattle.std.proofs.Common.{◌≡◌, take}
use Rattle.level_balance.proofs.page.words_of.Given as goal

abbrev pub invariant-loop-half : goal.invariant-loop-half
invariant-loop-half l = l.words.items ≡ take l.half-index l.halves
