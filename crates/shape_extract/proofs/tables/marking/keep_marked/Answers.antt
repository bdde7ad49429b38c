use Rattle.std.proofs.Common.{◌≡◌, ◌<◌, true, false, length, get_or, sym, ◌∙◌, arith}
use Rattle.std.proofs.lemmas.List.Filters.{FiltersInPlace-more_set, FiltersInPlace-more_no}
use Rattle.layout_rules.specs.Labels.{marks}
use Rattle.shape_extract.specs.Searches.{passes_at}
use Rattle.shape_extract.proofs.Partners.{untried, tested_at}
use Rattle.shape_extract.proofs.tables.marking.keep_marked.Goals as goal
use Rattle.shape_extract.proofs.tables.marking.keep_marked.Goals.{then-marks, else-marks}

pub get-requires : goal.get-requires
get-requires c =
    let old : c.index-place.result.now ≡ get_or c.args.places.now.items c.loop-at.at c.index-place.result.now =
    untried _ _ _ _ _ _ c.loop-at.invariant c.index-place.ensures in
    let long : length c.loop-at.places.items ≡ length c.args.places.now.items = c.loop-at.invariant.long in
    let lt : get_or c.args.places.now.items c.loop-at.at c.index-place.result.now < length c.args.kinds.now =
    c.requires c.loop-at.at c.index-place.result.now (omega (arith, c.len-at-end.ensures)) in
    omega arith

pub loop-at-preserved : goal.loop-at-preserved
loop-at-preserved c =
    let long : length c.loop-at.places.items ≡ length c.args.places.now.items = c.loop-at.invariant.long in
    let lt : c.loop-at.at < length c.loop-at.places.items = omega (arith, c.len-at-end.ensures) in
    let old : c.index-place.result.now ≡ get_or c.args.places.now.items c.loop-at.at c.index-place.result.now =
    untried _ _ _ _ _ _ c.loop-at.invariant c.index-place.ensures in
    let below : get_or c.args.places.now.items c.loop-at.at c.index-place.result.now < length
    c.args.kinds.now = c.requires c.loop-at.at c.index-place.result.now (omega arith) in
    let within : c.index-place.result.now < length c.args.kinds.now = omega arith in
    elim c.if-marks.branch [
      | then-marks w ↦
          let so : passes_at (marks c.args.label.now) c.args.kinds.now c.index-place.result.now ≡ true = tested_at
          (marks c.args.label.now) c.get.result.now c.args.kinds.now c.index-place.result.now true c.get.ensures
          (sym c.marks.ensures ∙ w.if-marks.true) in
          rw (w.places-is, w.kept-is) (FiltersInPlace-more_set c.loop-at.invariant lt so c.index-place.ensures)
      | else-marks w ↦
          let so : passes_at (marks c.args.label.now) c.args.kinds.now c.index-place.result.now ≡ false = tested_at
          (marks c.args.label.now) c.get.result.now c.args.kinds.now c.index-place.result.now false
          c.get.ensures (sym c.marks.ensures ∙ w.if-marks.false) in
          rw (w.places-is, w.kept-is) (FiltersInPlace-more_no c.loop-at.invariant lt so c.index-place.ensures)
    ]
