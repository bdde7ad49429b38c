use Rattle.shape_extract.proofs.LabelNumbers.{SeenBelow}
use Rattle.shape_extract.proofs.rules.label_numbers.first_misnumbered.Given as goal

abbrev pub invariant-loop-place : goal.invariant-loop-place
invariant-loop-place l = SeenBelow l.place l.flat l.entries l.exits l.seen
