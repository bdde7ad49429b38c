use Rattle.std.proofs.Common.{◌≡◌, map, ◌++◌, length}
use Rattle.std.specs.List.{list_all}
use Rattle.blif_read.specs.Parts.{number, is_defined}
use Rattle.blif_read.proofs.signals.push_numbers.Given as goal

abbrev pub invariant-tokens : goal.invariant-tokens
invariant-tokens l = (l.numbers ++ map (number l.names.keys) l.rest ≡ l.fn.numbers ++ map
    (number l.names.keys) l.fn.tokens)
    × (list_all (is_defined l.names.keys) l.rest ≡ list_all (is_defined l.names.keys) l.fn.tokens)

abbrev pub decreases-tokens : goal.decreases-tokens
decreases-tokens l = length l.rest
