use Rattle.shape_extract.proofs.OutputLists.{off_layer, shows_from}
use Rattle.shape_extract.proofs.Each.{item_read}
use Rattle.shape_extract.proofs.circuits.outputs.output_shown.Goals as goal

pub returns : goal.returns
returns c =
    let got = item_read c.as_slice.ensures c.requires.within c.index-as_slice-q.is in
    shows_from c.args.flat.now c.args.q c.name_of.result
    (record { shape = c.index-as_slice-q.result; shape_is = got; of_layer = c.if-shape-ne-OUTPUT_PIN.false })
    c.name_of.ensures

pub returns-then-shape-ne-OUTPUT_PIN : goal.returns-then-shape-ne-OUTPUT_PIN
returns-then-shape-ne-OUTPUT_PIN c =
    let got = item_read c.as_slice.ensures c.requires.within c.index-as_slice-q.is in
    off_layer c.args.flat.now c.requires.kept c.args.q c.index-as_slice-q.result got c.if-shape-ne-OUTPUT_PIN.true
