use Rattle.std.proofs.Common.{◌≡◌, ◌<◌, true, false, length, get_or, Some, sym, ◌∙◌, arith}
use Rattle.std.specs.Prelude.{slice_get}
use Rattle.std.proofs.lemmas.List.Filters.{FiltersInPlace-more_set, FiltersInPlace-more_no}
use Rattle.geom.proofs.Filing.{read_at}
use Rattle.shape_extract.specs.Searches.{passes_with}
use Rattle.shape_extract.proofs.Partners.{untried, tested}
use Rattle.shape_extract.proofs.pairs.keep_passing.Goals as goal
use Rattle.shape_extract.proofs.pairs.keep_passing.Goals.{then-passes, else-passes}

pub bounds-shapes-number : goal.bounds-shapes-number
bounds-shapes-number g c =
    let old : c.index-number.result.now ≡ get_or c.args.numbers.now.items c.loop-place.place c.index-number.result.now =
    untried _ _ _ _ _ _ c.loop-place.invariant c.index-number.ensures in
    let long : length c.loop-place.numbers.items ≡ length c.args.numbers.now.items = c.loop-place.invariant.long in
    let lt : get_or c.args.numbers.now.items c.loop-place.place c.index-number.result.now < length c.args.shapes.now =
    c.requires c.loop-place.place c.index-number.result.now (omega (arith, c.len-place-end.ensures)) in
    omega arith

pub loop-place-preserved : goal.loop-place-preserved
loop-place-preserved g c =
    let long : length c.loop-place.numbers.items ≡ length c.args.numbers.now.items = c.loop-place.invariant.long in
    let lt : c.loop-place.place < length c.loop-place.numbers.items = omega (arith, c.len-place-end.ensures) in
    let old : c.index-number.result.now ≡ get_or c.args.numbers.now.items c.loop-place.place c.index-number.result.now =
    untried _ _ _ _ _ _ c.loop-place.invariant c.index-number.ensures in
    let below : get_or c.args.numbers.now.items c.loop-place.place c.index-number.result.now < length
    c.args.shapes.now = c.requires c.loop-place.place c.index-number.result.now (omega arith) in
    let within : c.index-number.result.now < length c.args.shapes.now = omega arith in
    let got : slice_get c.args.shapes.now c.index-number.result.now ≡ Some c.index-shapes-number.result =
    read_at c.args.shapes.now c.index-number.result.now c.index-shapes-number.result within
    c.index-shapes-number.is in
    elim c.if-passes.branch [
      | then-passes w ↦
          let so : passes_with (g.T.PairTest.passes c.args.test.now) c.args.first.now c.args.shapes.now
          c.index-number.result.now ≡ true =
          tested (g.T.PairTest.passes c.args.test.now) c.args.first.now c.index-shapes-number.result
          c.args.shapes.now c.index-number.result.now true got (sym c.passes.ensures ∙ w.if-passes.true) in
          rw (w.numbers-is, w.kept-is) (FiltersInPlace-more_set c.loop-place.invariant lt so c.index-number.ensures)
      | else-passes w ↦
          let so : passes_with (g.T.PairTest.passes c.args.test.now) c.args.first.now c.args.shapes.now
          c.index-number.result.now ≡ false =
          tested (g.T.PairTest.passes c.args.test.now) c.args.first.now c.index-shapes-number.result
          c.args.shapes.now c.index-number.result.now false got (sym c.passes.ensures ∙ w.if-passes.false) in
          rw (w.numbers-is, w.kept-is) (FiltersInPlace-more_no c.loop-place.invariant lt so c.index-number.ensures)
    ]
