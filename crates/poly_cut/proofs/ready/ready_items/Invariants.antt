use Rattle.std.proofs.Common.{take}
use Rattle.poly_cut.specs.Code.Readied.{AddsAs}
use Rattle.poly_cut.proofs.ready.ready_items.Given as goal

abbrev pub invariant-loop-item : goal.invariant-loop-item
invariant-loop-item l = AddsAs l.structures (take l.item-index l.items) l.ready
