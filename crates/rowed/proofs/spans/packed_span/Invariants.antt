use Rattle.std.proofs.Common.{◌≡◌, ◌+◌, drop}
use Rattle.rowed.specs.Extent.{packed_span}
use Rattle.rowed.proofs.spans.packed_span.Given as goal

abbrev pub invariant-loop-cell : goal.invariant-loop-cell
invariant-loop-cell l = l.span + packed_span (drop l.cell-index l.cells) ≡ packed_span l.cells
