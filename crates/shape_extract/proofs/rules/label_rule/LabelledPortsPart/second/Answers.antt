use Rattle.std.proofs.Common.{◌≡◌, ◌∙◌, sym, true, false}
use Rattle.layout_rules.specs.CircuitRules.{is_port}
use Rattle.shape_extract.proofs.Each.{item_at}
use Rattle.shape_extract.proofs.Searching.{said_true, said_false}
use Rattle.shape_extract.proofs.MarkTable.{one_at}
use Rattle.shape_extract.proofs.LabelParts.{port_read, unlabelled, not_port, labelled_once}
use Rattle.shape_extract.proofs.rules.label_rule.LabelledPortsPart.second.Goals as goal

pub returns-then-not-crosses : goal.returns-then-not-crosses
returns-then-not-crosses c =
    let s = item_at c.args.self.now.flat.now.shapes c.args.a c.requires.within in
    let inner : is_port c.args.self.now.flat.now.shapes s.0 ≡ false =
    sym (port_read c.args.self.now.flat.now c.args.a s.0 s.1 c.args.self.now.ports.now _ c.requires.valid.1)
    ∙ (sym c.crosses.ensures ∙ c.if-not-crosses.true) in
    not_port c.args.self.now.flat.now c.args.a s.0 s.1 inner

pub returns-then-has_one : goal.returns-then-has_one
returns-then-has_one c =
    let s = item_at c.args.self.now.flat.now.shapes c.args.a c.requires.within in
    labelled_once c.args.self.now.flat.now c.args.a s.0 s.1
    (said_true _ _ (one_at c.args.self.now.flat.now c.args.self.now.marking.now c.requires.valid.2 c.args.a s.0 s.1)
    (sym c.has_one.ensures ∙ c.if-has_one.true))

pub returns : goal.returns
returns c =
    let s = item_at c.args.self.now.flat.now.shapes c.args.a c.requires.within in
    let port : is_port c.args.self.now.flat.now.shapes s.0 ≡ true =
    sym (port_read c.args.self.now.flat.now c.args.a s.0 s.1 c.args.self.now.ports.now _ c.requires.valid.1)
    ∙ (sym c.crosses.ensures ∙ c.if-not-crosses.false) in
    unlabelled c.args.self.now.flat.now c.args.a s.0 s.1 port
    (said_false _ _ (one_at c.args.self.now.flat.now c.args.self.now.marking.now c.requires.valid.2 c.args.a s.0
    s.1) (sym c.has_one.ensures ∙ c.if-has_one.false))
