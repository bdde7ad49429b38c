use Rattle.std.proofs.Common.{◌≡◌, ◌+◌, ◌≤◌, [], length}
use Rattle.mig.specs.Code.Rebuilding.{CarriesGraph}
use Rattle.mig.proofs.rebuilt.node_literals.Given as goal

abbrev pub invariant-loop-number : goal.invariant-loop-number
invariant-loop-number l = record {
  size : length l.found.items ≡ 1 + l.graph.inputs + l.number;
  few : l.critical ≡ [] → length l.builder.nodes ≤ l.number;
  carries : CarriesGraph l.graph l.marks l.builder l.found.items;
}
