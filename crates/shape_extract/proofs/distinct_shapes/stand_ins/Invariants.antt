use Rattle.shape_extract.specs.Code.DistinctShapes.{AreOwn}
use Rattle.shape_extract.proofs.StandIns.{PlacesTo}
use Rattle.shape_extract.proofs.distinct_shapes.stand_ins.Given as goal

abbrev pub invariant-loop-n : goal.invariant-loop-n
invariant-loop-n l = record {
  places : PlacesTo l.n l.shapes l.numbers.items l.places.items;
  own : AreOwn l.heads l.numbers.items;
}
