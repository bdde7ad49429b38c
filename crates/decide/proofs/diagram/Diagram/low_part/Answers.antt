use Rattle.std.proofs.Common.{◌∙◌}
use Rattle.std.proofs.lemmas.Result.{IfOk-weaker}
use Rattle.decide.proofs.Gating.{input_choice}
use Rattle.decide.proofs.Narrowed.{has_low_part}
use Rattle.decide.proofs.diagram.Diagram.low_part.Goals as goal

pub returns-clause-has : goal.returns-clause-has
returns-clause-has c =
    IfOk-weaker c.conjunction.result _ _
    (λ e h. has_low_part c.args.self.now.table.nodes.keys c.choice.new.self.table.nodes.keys
    c.conjunction.new.self.table.nodes.keys
    c.args.self.now.table.sound c.choice.new.self.table.sound c.in_ok-variable.ensures.grows c.args.function
    c.in_ok-variable.variable c.complement.result e c.args.level
    c.requires.inside c.complement.ensures
    (λ x. c.in_ok-variable.ensures.has.value x
    ∙ input_choice c.args.self.now.table.nodes.keys c.args.self.now.table.sound c.args.level x) h)
    c.conjunction.ensures.has
