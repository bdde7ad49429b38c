use Rattle.std.proofs.Common.{◌<◌, List, length, All}
use Rattle.decide.specs.declared.edge.Node.{Node}
use Rattle.decide.specs.declared.diagram.TheConstants.{NOTHING}
use Rattle.decide.specs.Code.Majorities.{IsEntry}
use Rattle.decide.proofs.diagram.spread.Given as goal

abbrev pub invariant-loop-entry : goal.invariant-loop-entry
invariant-loop-entry l = record {
  some : 0 < length l.more.items;
  each : (nodes : List Node) → IsEntry nodes NOTHING → All (IsEntry nodes) l.computed
      → All (IsEntry nodes) l.more.items;
}
