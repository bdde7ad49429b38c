use Rattle.std.proofs.Common.{◌≡◌, ◌++◌, map, length}
use Rattle.blif_read.specs.Models.{named}
use Rattle.blif_read.proofs.models.push_named.Given as goal

abbrev pub invariant-names : goal.invariant-names
invariant-names l = l.list ++ map (named l.line) l.rest ≡ l.fn.list ++ map (named l.line) l.fn.names

abbrev pub decreases-names : goal.decreases-names
decreases-names l = length l.rest
