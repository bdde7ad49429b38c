use Rattle.std.proofs.Common.{◌≡◌, ◌+◌, ◌<◌, ◌^◌, ◌||◌, [], length}
use Rattle.std.specs.List.{list_any}
use Rattle.blif_read.specs.Faults.{is_control}
use Rattle.blif_read.specs.Code.Ends.{last_after}
use Rattle.blif_read.proofs.ends.ends_of.Given as goal

abbrev pub invariant-tokens : goal.invariant-tokens
invariant-tokens l = record {
  few : length l.fn.tokens < 2 ^ 63;
  count : l.count + length l.rest ≡ length l.fn.tokens;
  control : (l.control || list_any (list_any is_control) l.rest) ≡ list_any (list_any is_control) l.fn.tokens;
  last : last_after l.last l.rest ≡ last_after [] l.fn.tokens;
}

abbrev pub decreases-tokens : goal.decreases-tokens
decreases-tokens l = length l.rest
