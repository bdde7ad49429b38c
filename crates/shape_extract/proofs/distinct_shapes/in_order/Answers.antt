use Rattle.std.proofs.Common.{◌≡◌, ◌∙◌, ap, [], ◌∷◌, ◌++◌}
use Rattle.shape_extract.specs.declared.distinct_shapes.Sided.{Sided}
use Rattle.shape_extract.specs.Code.DistinctShapes.{sided_of}
use Rattle.shape_extract.proofs.Marked.{got_at}
use Rattle.shape_extract.proofs.SidedOrder.{sided_more, sided_moved, in_order}
use Rattle.shape_extract.proofs.distinct_shapes.in_order.Goals as goal

pub loop-number-preserved : goal.loop-number-preserved
loop-number-preserved c =
    let order = c.loop-number.order.items in
    let longer : c.push.new.self.items ≡ order ++ (sided_of c.index-shapes-number.result c.loop-number.number ∷ []) =
    c.in_ok-push.ensures.items ∙ ap (λ (x : Sided). order ++ (x ∷ [])) c.sided_at.ensures in
    rw longer (sided_more _ _ _ _ c.loop-number.invariant
    (got_at _ _ _ c.loop-number-test.true c.index-shapes-number.is))

pub returns : goal.returns
returns c =
    in_order _ _ _ (sided_moved _ _ _ _ c.sort_unstable.ensures.permutation c.loop-number.invariant)
    c.sort_unstable.ensures.sorted c.loop-number-test.false
