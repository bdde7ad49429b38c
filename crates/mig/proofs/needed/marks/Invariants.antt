use Rattle.std.proofs.Common.{◌≡◌, ◌+◌, ◌≤◌, length}
use Rattle.mig.proofs.Marked.{OutputsMarked, ClosedFrom}
use Rattle.mig.proofs.needed.marks.Given as goal

abbrev pub invariant-loop-output : goal.invariant-loop-output
invariant-loop-output l = record {
  size : length l.marks.items ≡ 1 + l.inputs + length l.nodes;
  outs : OutputsMarked l.marks.items l.outputs l.output-index;
}

abbrev pub invariant-loop-left : goal.invariant-loop-left
invariant-loop-left l = record {
  low : l.left ≤ length l.nodes;
  size : length l.marks.items ≡ 1 + l.inputs + length l.nodes;
  outs : OutputsMarked l.marks.items l.outputs (length l.outputs);
  closed : ClosedFrom l.left l.inputs l.nodes l.marks.items;
}

abbrev pub decreases-loop-left : goal.decreases-loop-left
decreases-loop-left l = l.left
