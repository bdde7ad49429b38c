use Rattle.std.proofs.Common.{◌≡◌, ◌≤◌, ◌<◌, ◌-◌, ◌∙◌, sym, Some, length, arith, false}
use Rattle.std.specs.Prelude.{slice_get}
use Rattle.geom.proofs.Filing.{read_at}
use Rattle.layout_rules.specs.CircuitRules.{is_port_label}
use Rattle.shape_extract.proofs.LabelParts.{no_port_label, no_label, port_label}
use Rattle.shape_extract.proofs.rules.label_rule.PortLabelsPart.second.Goals as goal
use Rattle.shape_extract.proofs.rules.label_rule.PortLabelsPart.second.Goals.{then-label-ne-LABELS-via-then-label-ne-LABELS}
use Rattle.shape_extract.proofs.rules.label_rule.PortLabelsPart.second.Goals.{then-label-ne-LABELS-via-else-label-ne-LABELS+in_ok-is_port_label+then-branch}

pub returns : goal.returns
returns c =
    let past : length c.args.self.now.flat.now.shapes ≤ c.args.a =
    rw c.as_slice-shapes.ensures at c.if-a-shapes.false in
    let within : c.args.a - length c.args.self.now.flat.now.shapes < length c.args.self.now.flat.now.labels =
    omega (arith, c.requires.within) in
    let got : slice_get c.args.self.now.flat.now.labels
    (c.args.a - length c.args.self.now.flat.now.shapes) ≡ Some c.index-as_slice-a.result =
    read_at c.args.self.now.flat.now.labels _ _ within
    (rw (c.as_slice.ensures, c.as_slice-shapes.ensures) at c.index-as_slice-a.is) in
    let not_so : is_port_label c.args.self.now.flat.now.shapes c.index-as_slice-a.result ≡ false =
    sym (rw c.as_slice-shapes.ensures at c.in_ok-is_port_label.ensures) ∙ c.if-branch.false in
    no_port_label c.args.self.now.flat.now c.args.a c.index-as_slice-a.result past got c.if-label-ne-LABELS.false not_so

pub returns-then-label-ne-LABELS : goal.returns-then-label-ne-LABELS
returns-then-label-ne-LABELS c =
    let past : length c.args.self.now.flat.now.shapes ≤ c.args.a =
    rw c.as_slice-shapes.ensures at c.if-a-shapes.false in
    let within : c.args.a - length c.args.self.now.flat.now.shapes < length c.args.self.now.flat.now.labels =
    omega (arith, c.requires.within) in
    let got : slice_get c.args.self.now.flat.now.labels
    (c.args.a - length c.args.self.now.flat.now.shapes) ≡ Some c.index-as_slice-a.result =
    read_at c.args.self.now.flat.now.labels _ _ within
    (rw (c.as_slice.ensures, c.as_slice-shapes.ensures) at c.index-as_slice-a.is) in
    elim c.then-label-ne-LABELS.branch [
      | then-label-ne-LABELS-via-then-label-ne-LABELS w ↦ no_label c.args.self.now.flat.now c.args.a
          c.index-as_slice-a.result past got w.if-label-ne-LABELS.true
      | then-label-ne-LABELS-via-else-label-ne-LABELS+in_ok-is_port_label+then-branch w ↦ port_label
          c.args.self.now.flat.now c.args.a c.index-as_slice-a.result past got
          (sym (rw c.as_slice-shapes.ensures at w.in_ok-is_port_label.ensures) ∙ w.if-branch.true)
    ]
