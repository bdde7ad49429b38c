use Rattle.std.proofs.Common.{◌<◌, length, arith}
use Rattle.std.specs.Prelude.{slice_index}
use Rattle.std.proofs.lemmas.Option.{slice_get-get_or}
use Rattle.shape_extract.specs.declared.tables.mark_table.Mark.TheVariants.{Unmarked}
use Rattle.shape_extract.proofs.MarkTable.{noted_none, noted_more, noted_all}
use Rattle.shape_extract.proofs.tables.mark_table.note.Goals as goal

pub loop-number-init : goal.loop-number-init
loop-number-init c = noted_none _ _ _

pub loop-number-preserved : goal.loop-number-preserved
loop-number-preserved c =
    let within : slice_index c.args.numbers.now c.loop-number.number-index < length c.loop-number.marking =
    omega (
      arith,
      c.requires.within c.loop-number.number-index c.loop-number-test.true,
      c.loop-number.invariant.long,
    ) in
    noted_more c.loop-number.number-index c.args.label c.args.numbers.now c.args.marking.now c.loop-number.marking _
    c.with.result c.requires.rising c.loop-number-test.true within c.loop-number.invariant
    (slice_get-get_or c.loop-number.marking
    (slice_index c.args.numbers.now c.loop-number.number-index) Unmarked within) c.with.ensures

pub returns : goal.returns
returns c = noted_all _ _ _ _ _ c.loop-number-test.false c.loop-number.invariant
