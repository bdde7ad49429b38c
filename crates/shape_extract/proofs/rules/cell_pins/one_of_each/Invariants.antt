use Rattle.shape_extract.specs.Code.Cells.{AreOneOfEach}
use Rattle.shape_extract.proofs.rules.cell_pins.one_of_each.Given as goal

abbrev pub invariant-loop-datatype : goal.invariant-loop-datatype
invariant-loop-datatype l = AreOneOfEach l.shapes l.numbers l.layer l.datatype
