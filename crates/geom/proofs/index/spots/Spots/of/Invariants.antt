use Rattle.std.proofs.Common.{◌≡◌, take}
use Rattle.geom.specs.Near.{rects_of}
use Rattle.geom.specs.Code.Filed.{rects_in}
use Rattle.geom.proofs.index.spots.Spots.of.Given as goal

abbrev pub invariant-loop-shape : goal.invariant-loop-shape
invariant-loop-shape l = rects_in l.spots.items ≡ rects_of (take l.shape-index l.shapes)
