use Rattle.std.proofs.Common.{ap}
use Rattle.std.proofs.lemmas.Result.{IfOk-weaker}
use Rattle.circuit.specs.declared.gate.Gate.{Gate}
use Rattle.decide.specs.Code.GateFunctions.{gate_function}
use Rattle.decide.proofs.Gating.{has_input, named_input, has_constant}
use Rattle.decide.proofs.diagram.Diagram.gate.Goals as goal

pub returns-in-Input-clause-has : goal.returns-in-Input-clause-has
returns-in-Input-clause-has c =
    IfOk-weaker c.choice.result _ _
    (λ e h. has_input c.args.self.now.table.nodes.keys c.choice.new.self.table.nodes.keys
    c.args.self.now.table.sound c.args.edges.now c.args.gate c.in-Input.input c.in-Input.is
    e h) c.choice.ensures.has

pub returns-in-Input-clause-named : goal.returns-in-Input-clause-named
returns-in-Input-clause-named c a b inputs named is =
    c.choice.ensures.named a b named
    (named_input c.args.self.now.table.nodes.keys c.args.self.now.table.sound c.args.edges.now c.args.gate
    c.in-Input.input c.in-Input.is a b is)

pub returns-in-Zero-clause-has : goal.returns-in-Zero-clause-has
returns-in-Zero-clause-has c =
    has_constant c.args.self.now.table.nodes.keys c.args.self.now.table.sound c.args.edges.now c.args.gate _
    (λ x. ap (λ (g : Gate). gate_function c.args.self.now.table.nodes.keys c.args.edges.now g x) c.in-Zero.is)

pub returns-in-One-clause-has : goal.returns-in-One-clause-has
returns-in-One-clause-has c = has_constant c.args.self.now.table.nodes.keys c.args.self.now.table.sound c.args.edges.now
    c.args.gate _ (λ x. ap (λ (g : Gate). gate_function c.args.self.now.table.nodes.keys
    c.args.edges.now g x) c.in-One.is)
