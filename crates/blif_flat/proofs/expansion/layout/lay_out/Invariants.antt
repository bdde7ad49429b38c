use Rattle.std.proofs.Common.{◌≡◌, ◌++◌, reverse, length}
use Rattle.std.specs.List.{AllByRecursion}
use Rattle.blif_flat.specs.Code.Blocks.{laid_out, still, turns_left, HaveRoom}
use Rattle.blif_flat.proofs.Laying.{HasRoom}
use Rattle.blif_flat.proofs.expansion.layout.lay_out.Given as goal

abbrev pub invariant-loop-frame : goal.invariant-loop-frame
invariant-loop-frame l = record {
  laid : l.defs ++ still l.blocks (reverse l.frames.items) ≡ laid_out l.blocks (length l.blocks) 0 0;
  room : (fit : HaveRoom l.blocks) → AllByRecursion (HasRoom fit.width) (reverse l.frames.items);
}

abbrev pub decreases-loop-frame : goal.decreases-loop-frame
decreases-loop-frame l = turns_left l.blocks (reverse l.frames.items)
