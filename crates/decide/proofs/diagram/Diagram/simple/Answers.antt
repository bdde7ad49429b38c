use Rattle.decide.proofs.Remembering.{reads_some}
use Rattle.decide.proofs.diagram.Diagram.simple.Goals as goal

pub returns-clause-open : goal.returns-clause-open
returns-clause-open c = reads_some c.args.self.now.table.nodes.keys c.args.operands c.args.self.now.table.sound
    c.requires c.if-same_edge.ensures c.if-same_edge-2.ensures c.if-same_edge-4.ensures
