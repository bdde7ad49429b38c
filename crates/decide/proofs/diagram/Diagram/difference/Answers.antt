use Rattle.std.proofs.lemmas.Result.{IfOk-weaker}
use Rattle.decide.proofs.Narrowed.{has_difference}
use Rattle.decide.proofs.diagram.Diagram.difference.Goals as goal

pub returns-clause-has : goal.returns-clause-has
returns-clause-has c =
    IfOk-weaker c.conjunction-3.result _ _
    (λ e h. has_difference c.args.self.now.table.nodes.keys c.conjunction.new.self.table.nodes.keys
    c.conjunction-2.new.self.table.nodes.keys c.conjunction-3.new.self.table.nodes.keys
    c.args.self.now.table.sound c.conjunction.new.self.table.sound c.conjunction-2.new.self.table.sound
    c.in_ok-both.ensures.grows c.in_ok-neither.ensures.grows
    c.args.first c.args.second c.complement.result c.complement-2.result c.in_ok-both.both c.complement-3.result
    c.in_ok-neither.neither c.complement-4.result e
    c.requires.first c.requires.second c.complement.ensures c.complement-2.ensures
    c.complement-3.ensures c.complement-4.ensures
    c.in_ok-both.ensures.has c.in_ok-neither.ensures.has h)
    c.conjunction-3.ensures.has
