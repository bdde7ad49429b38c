use Rattle.std.proofs.Common.{◌≡◌, map, take}
use Rattle.blif_flat.specs.Code.Blocks.{place_in}
use Rattle.blif_flat.proofs.expansion.tables.exits_of.Given as goal

abbrev pub invariant-loop-number : goal.invariant-loop-number
invariant-loop-number l = l.exits.items ≡ map (place_in l.places) (take l.number l.names)
