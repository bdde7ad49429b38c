use Rattle.std.proofs.Common.{◌≡◌, ◌++◌, map, take}
use Rattle.poly_cut.specs.FlatForm.{shape}
use Rattle.poly_cut.proofs.flat.add_drawn.Given as goal

abbrev pub invariant-loop-rect : goal.invariant-loop-rect
invariant-loop-rect l = l.shapes ≡ l.initial.shapes ++ map (shape l.layer l.datatype) (take l.rect-index l.rects)
