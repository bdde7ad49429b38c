use Rattle.std.proofs.Common.{◌∙◌, ap, sym, subst, length, reverse}
use Rattle.blif_flat.specs.Code.Blocks.{AreStraight, HaveRoom, laid_out}
use Rattle.blif_flat.proofs.StraightBlocks.{straight, design_laid}
use Rattle.blif_flat.proofs.BlockRoom.{all_narrow, have_room}
use Rattle.blif_flat.proofs.expansion.tables.definitions_of.Goals as goal

pub blocks_of-requires-clause-joined : goal.blocks_of-requires-clause-joined
blocks_of-requires-clause-joined c = c.requires.laid_out.joined

pub blocks_of-requires-clause-narrow : goal.blocks_of-requires-clause-narrow
blocks_of-requires-clause-narrow c = all_narrow c.args.models.now c.args.order.now c.requires.order c.requires.laid_out
    c.requires.some c.requires.parts

pub lay_out-requires : goal.lay_out-requires
lay_out-requires c = record {
  straight = subst AreStraight (sym c.as_slice.ensures)
      (straight c.args.models.now (reverse c.args.order.now) c.in_ok-blocks.blocks c.requires.order.settled
      c.requires.order.bounded c.in_ok-blocks.ensures c.requires.some);
  room = subst HaveRoom (sym c.as_slice.ensures)
      (have_room c.args.models.now c.args.order.now c.in_ok-blocks.blocks c.requires.laid_out c.requires.some
      c.requires.order c.requires.parts c.in_ok-blocks.ensures);
}

pub returns : goal.returns
returns c = c.in_ok-defs.ensures ∙ ap (λ bs. laid_out bs (length bs) 0 0) c.as_slice.ensures
    ∙ design_laid c.args.models.now c.args.order.now c.in_ok-blocks.blocks c.requires.laid_out c.requires.some
    c.requires.order c.in_ok-blocks.ensures
