use Rattle.std.proofs.Common.{◌≡◌, ◌+◌, ◌++◌, map, take, length}
use Rattle.blif_flat.specs.declared.expansion.pieces.Piece.TheVariants.{Own}
use Rattle.blif_flat.specs.Code.Blocks.{buffer_of}
use Rattle.blif_flat.specs.Code.Joins.{exits_in}
use Rattle.blif_flat.proofs.expansion.assembly.push_exits.Given as goal

abbrev pub invariant-loop-at : goal.invariant-loop-at
invariant-loop-at l = record {
  count : l.count ≡ length (exits_in (take l.at l.ports) l.block.exits.now);
  pieces : l.pieces ≡ l.fn.pieces ++ map (λ e. Own (buffer_of l.block.line (l.block.start + e)))
      (exits_in (take l.at l.ports) l.block.exits.now);
}
