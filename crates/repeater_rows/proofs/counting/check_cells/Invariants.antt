use Rattle.repeater_rows.proofs.Makes.{AreCountedTo}
use Rattle.repeater_rows.proofs.counting.check_cells.Given as goal

abbrev pub invariant-loop-number : goal.invariant-loop-number
invariant-loop-number l = AreCountedTo l.reach l.fn.net l.number l.cells
