use Rattle.shape_extract.proofs.MarkTable.{NotedTo}
use Rattle.shape_extract.proofs.tables.mark_table.note.Given as goal

abbrev pub invariant-loop-number : goal.invariant-loop-number
invariant-loop-number l = NotedTo l.number-index l.label l.numbers l.initial.marking l.marking
