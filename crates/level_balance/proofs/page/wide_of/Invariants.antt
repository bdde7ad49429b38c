use Rattle.std.proofs.Common.{◌≡◌, take}
use Rattle.level_balance.proofs.page.wide_of.Given as goal

abbrev pub invariant-loop-word : goal.invariant-loop-word
invariant-loop-word l = l.wide.items ≡ take l.word-index l.words
