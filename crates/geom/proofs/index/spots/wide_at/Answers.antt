use Rattle.std.proofs.Common.{◌<◌, ◌≡◌, ◌∙◌, ap, sym, Some, length, slice_get, slice_index}
use Rattle.geom.specs.declared.shapes.Shape.{Shape}
use Rattle.geom.proofs.Filing.{read_at}
use Rattle.geom.proofs.Arranging.{rects_more}
use Rattle.geom.proofs.index.spots.wide_at.Goals as goal

pub loop-number-preserved : goal.loop-number-preserved
loop-number-preserved c =
    let lt : slice_index c.args.numbers.now c.loop-number.number-index < length c.args.shapes.now =
    c.requires c.loop-number.number-index 0 c.loop-number-test.true in
    let here : slice_get c.args.shapes.now (slice_index c.args.numbers.now c.loop-number.number-index)
    ≡ Some c.index-shapes-number.result = read_at _ _ _ lt c.index-shapes-number.is in
    rw c.in_ok-push.ensures.items (rects_more _ _ _ _ _ _ here (c.of.ensures ∙ ap (λ (s : Shape). s.rect) (sym c.index-shapes-number.is))
    c.loop-number.invariant)
