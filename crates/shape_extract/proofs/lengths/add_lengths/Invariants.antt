use Rattle.shape_extract.proofs.NetLengths.{LengthsOf}
use Rattle.shape_extract.proofs.lengths.add_lengths.Given as goal

abbrev pub invariant-loop-n : goal.invariant-loop-n
invariant-loop-n l = LengthsOf l.n l.shapes l.nets l.lengths
