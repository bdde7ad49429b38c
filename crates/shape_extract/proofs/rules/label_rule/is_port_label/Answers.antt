use Rattle.std.proofs.Common.{◌≡◌, ◌∙◌, sym, arith, true}
use Rattle.layout_rules.specs.Labels.{marks, is_numbered}
use Rattle.shape_extract.specs.Searches.{AreThose}
use Rattle.shape_extract.specs.Passing.{PassesIn}
use Rattle.shape_extract.proofs.LabelParts.{not_one, one_port}
use Rattle.shape_extract.proofs.rules.label_rule.is_port_label.Goals as goal

pub returns-in-len1 : goal.returns-in-len1
returns-in-len1 c =
    let are : AreThose (PassesIn (marks c.args.label.now) c.args.shapes.now) c.as_slice.result.now =
    rw c.as_slice.ensures.value c.in_ok-list_marked.ensures in
    let numbered : is_numbered c.args.label.now ≡ true = sym c.is_numbered.ensures ∙ c.if-not-is_numbered.false in
    c.crosses.ensures ∙ one_port c.args.shapes.now c.args.label.now c.as_slice.result.now are numbered c.args.ports.now
    _ c.requires.ports (omega arith)

pub returns-in_default : goal.returns-in_default
returns-in_default c =
    let are : AreThose (PassesIn (marks c.args.label.now) c.args.shapes.now) c.as_slice.result.now =
    rw c.as_slice.ensures.value c.in_ok-list_marked.ensures in
    let numbered : is_numbered c.args.label.now ≡ true = sym c.is_numbered.ensures ∙ c.if-not-is_numbered.false in
    not_one c.args.shapes.now c.args.label.now c.as_slice.result.now are numbered (λ one. omega arith)

pub returns-in_default-2 : goal.returns-in_default-2
returns-in_default-2 c =
    let are : AreThose (PassesIn (marks c.args.label.now) c.args.shapes.now) c.as_slice.result.now =
    rw c.as_slice.ensures.value c.in_ok-list_marked.ensures in
    let numbered : is_numbered c.args.label.now ≡ true = sym c.is_numbered.ensures ∙ c.if-not-is_numbered.false in
    not_one c.args.shapes.now c.args.label.now c.as_slice.result.now are numbered (λ one. omega arith)
