use Rattle.std.proofs.Common.{◌≡◌, ◌+◌, ◌<◌, ◌^◌, length}
use Rattle.blif_read.proofs.token_list.Tokens.len.Given as goal

abbrev pub invariant-tokens : goal.invariant-tokens
invariant-tokens l = record {
  all : l.count + length l.rest ≡ length l.self;
  few : length l.self < 2 ^ 63;
}

abbrev pub decreases-tokens : goal.decreases-tokens
decreases-tokens l = length l.rest
