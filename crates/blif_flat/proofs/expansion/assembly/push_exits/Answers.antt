use Rattle.std.proofs.Common.{◌+◌, arith, None}
use Rattle.blif_flat.specs.declared.expansion.pieces.Piece.TheVariants.{Own}
use Rattle.blif_flat.specs.Code.Blocks.{buffer_of}
use Rattle.blif_flat.proofs.Assembling.{exit_count, exit_pieces, exit_few}
use Rattle.blif_flat.proofs.expansion.assembly.push_exits.Goals as goal

pub loop-at-preserved : goal.loop-at-preserved
loop-at-preserved c = record {
  count = exit_count c.args.ports.now c.args.block.now.exits.now c.loop-at.at c.loop-at.count _ None
      c.loop-at-test.true c.loop-at.invariant.count c.in_ok-count.ensures.count;
  pieces = exit_pieces (λ e. Own (buffer_of c.args.block.now.line (c.args.block.now.start + e))) c.args.ports.now
      c.args.block.now.exits.now c.loop-at.at None c.args.pieces.now c.loop-at.pieces _ c.loop-at-test.true
      c.loop-at.invariant.pieces c.in_ok-count.ensures.pieces;
}

pub overflow_add-count : goal.overflow_add-count
overflow_add-count c =
    let few = exit_few c.args.ports.now c.args.block.now.exits.now c.loop-at.at c.loop-at.count None
    c.loop-at-test.true c.loop-at.invariant.count c.requires.few in
    omega (arith, few, c.in_ok-count.ensures.count)
