use Rattle.std.proofs.Common.{◌≡◌, ◌<◌, ◌∙◌, length, arith, ap}
use Rattle.std.specs.Prelude.{slice_index}
use Rattle.std.proofs.lemmas.Grind.{get_or_default_zero}
use Rattle.shape_extract.proofs.InPlanes.{named_more, named_same}
use Rattle.shape_extract.proofs.planes.name_places.Goals as goal
use Rattle.shape_extract.proofs.planes.name_places.Goals.{then-place-numbers, else-place-numbers}

pub loop-at-preserved : goal.loop-at-preserved
loop-at-preserved c =
    let lt : c.loop-at.at < length c.args.found.now.items = omega arith in
    let within : c.loop-at.at < length c.loop-at.found.items = omega (arith, c.loop-at.invariant.long) in
    let place_is : c.index.result.now ≡ slice_index c.args.found.now.items c.loop-at.at =
    c.index.ensures ∙ (get_or_default_zero _ _ _ within
    ∙ c.loop-at.invariant.rest c.loop-at.at (omega arith) lt) in
    elim c.if-place-numbers.branch [
      | then-place-numbers w ↦ rw w.found-is (named_more c.loop-at.at c.args.numbers.now c.args.found.now.items
          c.loop-at.found.items (slice_index c.args.numbers.now c.index.result.now) c.loop-at.invariant lt
          (ap (slice_index c.args.numbers.now) place_is))
      | else-place-numbers w ↦ rw w.found-is (named_same c.loop-at.at c.args.numbers.now c.args.found.now.items
          c.loop-at.found.items c.loop-at.invariant (omega (arith, place_is, w.if-place-numbers.false)))
    ]
