use Rattle.std.proofs.Common.{◌≡◌, ◌∙◌, sym, below_more}
use Rattle.std.specs.Prelude.{count_by}
use Rattle.shape_extract.specs.Code.Cells.{is_marked_at}
use Rattle.shape_extract.proofs.rules.cell_pins.one_of_each.Goals as goal

pub loop-datatype-preserved : goal.loop-datatype-preserved
loop-datatype-preserved c = below_more
    (λ datatype. count_by (is_marked_at c.args.shapes.now c.args.layer datatype) c.args.numbers.now ≡ 1) _
    c.loop-datatype.invariant (sym c.count_marked.ensures ∙ c.if-count_marked-ne1.false)
