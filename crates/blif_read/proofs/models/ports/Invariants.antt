use Rattle.std.proofs.Common.{◌≡◌, ◌++◌, ◌&&◌, length}
use Rattle.std.specs.List.{flat_map, list_all}
use Rattle.blif_read.specs.Models.{is_port, ports_in}
use Rattle.blif_read.proofs.models.ports.Given as goal

abbrev pub invariant-tokens : goal.invariant-tokens
invariant-tokens l = (l.ports ++ flat_map ports_in l.rest ≡ flat_map ports_in l.fn.tokens)
    × ((l.all && list_all is_port l.rest) ≡ list_all is_port l.fn.tokens)

abbrev pub decreases-tokens : goal.decreases-tokens
decreases-tokens l = length l.rest
