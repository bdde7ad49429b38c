use Rattle.shape_extract.proofs.OutputLists.{OutputsBelow}
use Rattle.shape_extract.proofs.circuits.outputs.outputs_of.Given as goal

abbrev pub invariant-loop-q : goal.invariant-loop-q
invariant-loop-q l = OutputsBelow l.q l.fn.tables.flat.now l.fn.tables.frames.now l.outputs.items
