use Rattle.std.proofs.Common.{◌≡◌, ◌∙◌, sym, false}
use Rattle.layout_rules.specs.declared.layers.TheConstants.{OUTPUT_PIN}
use Rattle.layout_rules.specs.Labels.{is_labelled}
use Rattle.shape_extract.specs.Searches.{AreThose}
use Rattle.shape_extract.specs.Code.NetPins.{IsPinIn}
use Rattle.shape_extract.proofs.MarkTable.{labelled_at}
use Rattle.shape_extract.proofs.RowPins.{are_rowed, astray_said, not_astray}
use Rattle.shape_extract.proofs.Each.{item_read}
use Rattle.shape_extract.proofs.rules.row_rule.WiresPart.second.Goals as goal
use Rattle.shape_extract.proofs.rules.row_rule.WiresPart.second.Goals.{then-shape-ne-INPUT_PIN-via-then-shape-ne-INPUT_PIN}
use Rattle.shape_extract.proofs.rules.row_rule.WiresPart.second.Goals.{then-shape-ne-INPUT_PIN-via-else-shape-ne-INPUT_PIN+then-has_label}

pub returns-then-shape-ne-INPUT_PIN : goal.returns-then-shape-ne-INPUT_PIN
returns-then-shape-ne-INPUT_PIN c =
    let got = item_read c.as_slice-shapes.ensures c.requires.within c.index-shapes-a.is in
    not_astray c.args.self.now.flat.now c.args.a c.index-shapes-a.result got
    (λ layer. elim c.then-shape-ne-INPUT_PIN.branch [
      | then-shape-ne-INPUT_PIN-via-then-shape-ne-INPUT_PIN w ↦ absurd (w.if-shape-ne-INPUT_PIN.true layer)
      | then-shape-ne-INPUT_PIN-via-else-shape-ne-INPUT_PIN+then-has_label w ↦ sym
          (labelled_at c.args.self.now.flat.now c.args.self.now.marking.now c.requires.valid.5 c.args.a
          c.index-shapes-a.result got) ∙ (sym w.has_label.ensures ∙ w.if-has_label.true)
    ])

pub first_astray-astray-requires : goal.first_astray-astray-requires
first_astray-astray-requires c =
    let got = item_read c.as_slice-shapes.ensures c.requires.within c.index-shapes-a.is in
    let are : AreThose (IsPinIn c.args.self.now.flat.now.shapes OUTPUT_PIN c.args.a) c.as_slice.result.now =
    rw c.as_slice.ensures.value (rw c.as_slice-shapes.ensures at c.in_ok-list_in_net.ensures) in
    are_rowed c.args.self.now.flat.now c.requires.valid.3 c.args.self.now.rows.now c.requires.valid.2 c.args.a
    c.index-shapes-a.result got c.if-shape-ne-INPUT_PIN.false c.as_slice.result.now are

pub returns : goal.returns
returns c =
    let got = item_read c.as_slice-shapes.ensures c.requires.within c.index-shapes-a.is in
    let are : AreThose (IsPinIn c.args.self.now.flat.now.shapes OUTPUT_PIN c.args.a) c.as_slice.result.now =
    rw c.as_slice.ensures.value (rw c.as_slice-shapes.ensures at c.in_ok-list_in_net.ensures) in
    let unmarked : is_labelled c.args.self.now.flat.now c.index-shapes-a.result ≡ false =
    sym (labelled_at c.args.self.now.flat.now c.args.self.now.marking.now c.requires.valid.5 c.args.a
    c.index-shapes-a.result got) ∙ (sym c.has_label.ensures ∙ c.if-has_label.false) in
    astray_said c.args.self.now.flat.now c.requires.valid.3 c.args.self.now.rows.now c.requires.valid.2 c.args.a
    c.index-shapes-a.result got c.if-shape-ne-INPUT_PIN.false c.as_slice.result.now are c.first_astray-astray.result
    unmarked c.first_astray-astray.ensures
