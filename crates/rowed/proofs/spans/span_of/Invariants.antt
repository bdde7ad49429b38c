use Rattle.std.proofs.Common.{◌≡◌, max, drop}
use Rattle.rowed.specs.Slots.{span_of}
use Rattle.rowed.proofs.spans.span_of.Given as goal

abbrev pub invariant-loop-number : goal.invariant-loop-number
invariant-loop-number l = max l.span (span_of (drop l.number l.cells) (drop l.number l.slots)) ≡ span_of l.cells l.slots
