use Rattle.std.proofs.Common.{◌≡◌, ◌++◌, map, take}
use Rattle.blif_flat.specs.declared.expansion.pieces.Piece.TheVariants.{Own}
use Rattle.blif_flat.specs.Code.Blocks.{place_in, buffer_of}
use Rattle.blif_flat.specs.Code.Joins.{first_actual}
use Rattle.blif_flat.proofs.expansion.assembly.push_entries.Given as goal

abbrev pub invariant-loop-port : goal.invariant-loop-port
invariant-loop-port l = l.pieces ≡ l.fn.pieces ++ map
    (λ p. Own (buffer_of l.call.line (place_in l.places (first_actual l.call p)))) (take l.port-index l.ports)
