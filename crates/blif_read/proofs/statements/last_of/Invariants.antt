use Rattle.std.proofs.Common.{◌≡◌, ◌++◌, ◌≤◌, length}
use Rattle.blif_read.specs.Statements.{last_of}
use Rattle.blif_read.proofs.statements.last_of.Given as goal

abbrev pub invariant-tokens : goal.invariant-tokens
invariant-tokens l = record {
  one : length l.last ≤ 1;
  same : last_of (l.last ++ l.rest) ≡ last_of l.fn.tokens;
}

abbrev pub decreases-tokens : goal.decreases-tokens
decreases-tokens l = length l.rest
