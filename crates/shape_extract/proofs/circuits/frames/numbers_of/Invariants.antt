use Rattle.std.proofs.Common.{◌≡◌, take}
use Rattle.shape_extract.specs.Code.Corners.{numbers_of}
use Rattle.shape_extract.proofs.circuits.frames.numbers_of.Given as goal

abbrev pub invariant-loop-corner : goal.invariant-loop-corner
invariant-loop-corner l = l.numbers.items ≡ numbers_of (take l.corner-index l.corners)
