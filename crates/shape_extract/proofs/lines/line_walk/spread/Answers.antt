use Rattle.std.proofs.Common.{◌≡◌, ◌++◌, ◌∷◌, [], arith}
use Rattle.std.specs.Prelude.{slice_index}
use Rattle.shape_extract.proofs.LineRoutes.{spread_none, spread_new, spread_old}
use Rattle.shape_extract.proofs.lines.line_walk.spread.Goals as goal
use Rattle.shape_extract.proofs.lines.line_walk.spread.Goals.{then-before-number+in_ok-push, else-before-number}

pub loop-number-init : goal.loop-number-init
loop-number-init c = spread_none _ _ _ _ c.requires.walk

pub loop-number-preserved : goal.loop-number-preserved
loop-number-preserved c = elim c.if-before-number.branch [
  | then-before-number+in_ok-push w ↦
      let longer : w.push.new.self.items ≡ c.loop-number.order.items ++ (slice_index c.args.contacts.now
      c.loop-number.number-index ∷ []) = w.in_ok-push.ensures.items in
      rw (w.before-is, w.order-is, longer)
      (spread_new _ _ _ _ _ _ _ _ c.loop-number.invariant c.requires.within c.requires.reached (omega arith)
      (c.requires.contacts.each c.loop-number.number-index c.loop-number-test.true))
  | else-before-number w ↦
      rw (w.before-is, w.order-is) (spread_old _ _ _ _ _ _ c.args.from _ c.loop-number.invariant (omega arith))
]
