use Rattle.std.proofs.lemmas.Result.{IfOk-weaker}
use Rattle.decide.proofs.Narrowed.{has_conjunction}
use Rattle.decide.proofs.diagram.Diagram.conjunction.Goals as goal

pub returns-clause-has : goal.returns-clause-has
returns-clause-has c =
    IfOk-weaker c.majority.result _ _
    (λ e h. has_conjunction c.args.self.now.table.nodes.keys c.majority.new.self.table.nodes.keys
    c.args.self.now.table.sound c.args.first c.args.second e h) c.majority.ensures.has
