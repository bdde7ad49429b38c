use Rattle.std.proofs.Common.{◌≡◌, ◌+◌, length}
use Rattle.circuit.specs.Gates.{valuation}
use Rattle.mig.proofs.Valued.{FitsTo}
use Rattle.mig.proofs.values.node_values.Given as goal

abbrev pub invariant-loop-node : goal.invariant-loop-node
invariant-loop-node l = record {
  size : length l.values.items ≡ 1 + length l.word + l.node-index;
  fit : FitsTo l.node-index (length l.word) l.nodes l.word (valuation l.values.items);
}
