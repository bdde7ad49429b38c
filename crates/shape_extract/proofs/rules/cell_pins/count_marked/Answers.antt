use Rattle.std.proofs.Common.{◌∙◌, sym, ap, arith}
use Rattle.std.specs.Prelude.{count_by}
use Rattle.std.proofs.lemmas.List.{take_all}
use Rattle.shape_extract.specs.Code.Cells.{is_marked_at}
use Rattle.shape_extract.proofs.Marked.{counted_yes, counted_no}
use Rattle.shape_extract.proofs.rules.cell_pins.count_marked.Goals as goal
use Rattle.shape_extract.proofs.rules.cell_pins.count_marked.Goals.{then-is_marked, else-is_marked}

pub loop-number-preserved : goal.loop-number-preserved
loop-number-preserved c = elim c.if-is_marked.branch [
  | then-is_marked w ↦ rw w.count-is (record {
    counted = counted_yes _ _ _ _ _ _ _ c.loop-number-test.true
        (c.requires c.loop-number.number-index c.loop-number-test.true) c.index-shapes-number.is
        c.loop-number.invariant.counted (sym c.is_marked.ensures ∙ w.if-is_marked.true);
    few = omega (arith, c.loop-number.invariant.few);
  })
  | else-is_marked w ↦ rw w.count-is (record {
    counted = counted_no _ _ _ _ _ _ _ c.loop-number-test.true
        (c.requires c.loop-number.number-index c.loop-number-test.true) c.index-shapes-number.is
        c.loop-number.invariant.counted (sym c.is_marked.ensures ∙ w.if-is_marked.false);
    few = omega (arith, c.loop-number.invariant.few);
  })
]

pub returns : goal.returns
returns c = c.loop-number.invariant.counted
    ∙ ap (count_by (is_marked_at c.args.shapes.now c.args.layer c.args.datatype))
    (take_all c.loop-number.number-index c.args.numbers.now c.loop-number-test.false)
