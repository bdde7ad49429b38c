use Rattle.cell_rows.specs.Code.Laying.{view_of, AreShown}
use Rattle.cell_rows.proofs.places.outputs_of.Given as goal

abbrev pub invariant-loop-k : goal.invariant-loop-k
invariant-loop-k l = AreShown (view_of l.fn.cells) l.shown.items l.k
