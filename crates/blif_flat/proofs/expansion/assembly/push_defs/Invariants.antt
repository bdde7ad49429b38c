use Rattle.std.proofs.Common.{◌≡◌, ◌++◌, map, take}
use Rattle.blif_flat.specs.declared.expansion.pieces.Piece.TheVariants.{Own}
use Rattle.blif_flat.specs.Code.Blocks.{place_in, placed}
use Rattle.blif_flat.proofs.expansion.assembly.push_defs.Given as goal

abbrev pub invariant-loop-def : goal.invariant-loop-def
invariant-loop-def l = l.pieces
    ≡ l.fn.pieces ++ map (λ d. Own (placed (place_in l.places) d)) (take l.def-index l.defs)
