use Rattle.std.proofs.Common.{List, sym, subst}
use Rattle.decide.specs.declared.edge.Node.{Node}
use Rattle.decide.specs.Code.Diagrams.{majority_value}
use Rattle.decide.specs.Code.Grown.{Represents, choice}
use Rattle.decide.specs.Code.Named.{AreNamed}
use Rattle.decide.proofs.Naming.{named_same}
use Rattle.decide.proofs.Stacking.{choice_is, joined, has_same}
use Rattle.decide.proofs.diagram.Diagram.join.Goals as goal

pub choice-requires-clause-low_inside : goal.choice-requires-clause-low_inside
choice-requires-clause-low_inside c = (c.requires.joins.is.low c.args.low c.requires.low).inside

pub returns-in_err-edge-clause-named : goal.returns-in_err-edge-clause-named
returns-in_err-edge-clause-named c a b named is =
    let nodes = c.args.self.now.table.nodes.keys in
    c.choice.ensures.named a b named
    (named_same a b (majority_value nodes c.args.frame.operands)
    (choice nodes c.args.frame.level c.args.low c.args.high) is
    (λ x. sym (choice_is nodes c.args.self.now.table.sound c.args.frame c.args.low c.args.high
    c.requires.low c.requires.joins x)))

pub remember-requires-clause-is : goal.remember-requires-clause-is
remember-requires-clause-is c =
    joined c.args.self.now.table.nodes.keys c.choice.new.self.table.nodes.keys c.args.self.now.table.sound
    c.choice.new.self.table.sound c.in_ok-edge.ensures.grows
    c.args.frame c.args.low c.args.high c.in_ok-edge.edge c.requires.low c.requires.joins c.in_ok-edge.ensures.has

pub returns-clause-has : goal.returns-clause-has
returns-clause-has c =
    let nodes = c.args.self.now.table.nodes.keys in
    let has = has_same c.choice.new.self.table.nodes.keys c.args.frame.level
    (choice nodes c.args.frame.level c.args.low c.args.high)
    (majority_value nodes c.args.frame.operands) c.in_ok-edge.edge
    (choice_is nodes c.args.self.now.table.sound c.args.frame c.args.low c.args.high c.requires.low c.requires.joins)
    c.in_ok-edge.ensures.has in
    subst (λ (ns : List Node). Represents ns c.args.frame.level
    (majority_value nodes c.args.frame.operands) c.in_ok-edge.edge) (sym c.remember.ensures) has

pub returns-clause-named : goal.returns-clause-named
returns-clause-named c a b named is =
    let nodes = c.args.self.now.table.nodes.keys in
    subst (λ (ns : List Node). AreNamed a b ns) (sym c.remember.ensures)
    (c.in_ok-edge.ensures.named a b named
    (named_same a b (majority_value nodes c.args.frame.operands)
    (choice nodes c.args.frame.level c.args.low c.args.high) is
    (λ x. sym (choice_is nodes c.args.self.now.table.sound c.args.frame c.args.low c.args.high
    c.requires.low c.requires.joins x))))

pub returns-in_err-remember-clause-named : goal.returns-in_err-remember-clause-named
returns-in_err-remember-clause-named c a b named is =
    let nodes = c.args.self.now.table.nodes.keys in
    subst (λ (ns : List Node). AreNamed a b ns) (sym c.remember.ensures)
    (c.in_ok-edge.ensures.named a b named
    (named_same a b (majority_value nodes c.args.frame.operands)
    (choice nodes c.args.frame.level c.args.low c.args.high) is
    (λ x. sym (choice_is nodes c.args.self.now.table.sound c.args.frame c.args.low c.args.high
    c.requires.low c.requires.joins x))))
