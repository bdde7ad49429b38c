use Rattle.std.proofs.Common.{◌≡◌, map, take}
use Rattle.blif_flat.specs.Code.Blocks.{place_in}
use Rattle.blif_flat.proofs.expansion.assembly.places_in.Given as goal

abbrev pub invariant-loop-name : goal.invariant-loop-name
invariant-loop-name l = l.found ≡ map (place_in l.places) (take l.name-index l.names)
