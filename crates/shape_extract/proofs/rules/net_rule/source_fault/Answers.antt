use Rattle.std.proofs.Common.{◌≡◌, ◌∙◌, sym, true, false}
use Rattle.layout_rules.specs.declared.layers.TheConstants.{OUTPUT_PIN}
use Rattle.layout_rules.specs.Labels.{is_labelled}
use Rattle.shape_extract.specs.Searches.{AreThose}
use Rattle.shape_extract.specs.Code.NetPins.{IsPinIn}
use Rattle.shape_extract.proofs.MarkTable.{labelled_at}
use Rattle.shape_extract.proofs.NetPins.{labelled_source, plain_source, no_input}
use Rattle.shape_extract.proofs.Each.{item_read}
use Rattle.shape_extract.proofs.rules.net_rule.source_fault.Goals as goal

pub returns : goal.returns
returns c =
    let got = item_read c.as_slice-shapes.ensures c.requires.within c.index-shapes-a.is in
    let are : AreThose (IsPinIn c.args.flat.now.shapes OUTPUT_PIN c.args.a) c.as_slice.result.now =
    rw c.as_slice.ensures.value (rw c.as_slice-shapes.ensures at c.in_ok-list_in_net.ensures) in
    let unmarked : is_labelled c.args.flat.now c.index-shapes-a.result ≡ false =
    sym (labelled_at c.args.flat.now c.args.marking.now c.requires.marking c.args.a c.index-shapes-a.result got)
    ∙ (sym c.has_label.ensures ∙ c.if-has_label.false) in
    rw c.lone-fault.ensures (plain_source c.args.flat.now c.args.a c.index-shapes-a.result c.as_slice.result.now
    c.first_number-source.result got c.if-shape-ne-INPUT_PIN.false are unmarked c.first_number-source.ensures)

pub returns-then-has_label : goal.returns-then-has_label
returns-then-has_label c =
    let got = item_read c.as_slice-shapes.ensures c.requires.within c.index-shapes-a.is in
    let are : AreThose (IsPinIn c.args.flat.now.shapes OUTPUT_PIN c.args.a) c.as_slice.result.now =
    rw c.as_slice.ensures.value (rw c.as_slice-shapes.ensures at c.in_ok-list_in_net.ensures) in
    let marked : is_labelled c.args.flat.now c.index-shapes-a.result ≡ true =
    sym (labelled_at c.args.flat.now c.args.marking.now c.requires.marking c.args.a c.index-shapes-a.result got)
    ∙ (sym c.has_label.ensures ∙ c.if-has_label.true) in
    labelled_source c.args.flat.now c.args.a c.index-shapes-a.result c.as_slice.result.now c.first_number-source.result
    got c.if-shape-ne-INPUT_PIN.false are marked c.first_number-source.ensures

pub returns-then-shape-ne-INPUT_PIN : goal.returns-then-shape-ne-INPUT_PIN
returns-then-shape-ne-INPUT_PIN c =
    let got = item_read c.as_slice-shapes.ensures c.requires.within c.index-shapes-a.is in
    no_input c.args.flat.now c.args.a c.index-shapes-a.result got c.if-shape-ne-INPUT_PIN.true
