use Rattle.std.proofs.Common.{arith, refl}
use Rattle.poly_cut.proofs.Numbering.{spot_more}
use Rattle.poly_cut.proofs.numbered.spot_of.Goals as goal

pub loop-place-preserved : goal.loop-place-preserved
loop-place-preserved c = λ of tell.
    spot_more c.args.kinds of c.args.items.now c.loop-place.place c.index-items-place.result c.item_count-count.result
    c.loop-place.left _ c.args.number c.loop-place-test.true c.index-items-place.is (c.item_count-count.ensures of tell)
    c.requires (c.loop-place.invariant of tell) (omega arith) refl
