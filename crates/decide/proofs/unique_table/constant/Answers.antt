use Rattle.std.proofs.Common.{ap}
use Rattle.decide.specs.declared.edge.Node.{Node}
use Rattle.decide.proofs.Adding.{begins_node}
use Rattle.decide.proofs.unique_table.constant.Goals as goal

pub returns-clause-level : goal.returns-clause-level
returns-clause-level c = ap (λ (t : Node). t.level)
    (begins_node c.new-nodes.result.keys c.insert.new.nodes.keys _ c.in_ok-insert.field-0 c.new-nodes.ensures.empty
    c.in_ok-insert.ensures.stored c.in_ok-insert.ensures.adds)
