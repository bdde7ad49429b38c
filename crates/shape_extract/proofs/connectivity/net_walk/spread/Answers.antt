use Rattle.std.proofs.Common.{◌≡◌, arith, ◌++◌, ◌∷◌, []}
use Rattle.std.specs.Prelude.{slice_index}
use Rattle.shape_extract.proofs.NetWalk.{spread_more, spread_same}
use Rattle.shape_extract.proofs.connectivity.net_walk.spread.Goals as goal
use Rattle.shape_extract.proofs.connectivity.net_walk.spread.Goals.{then-labels-number+in_ok-push, else-labels-number}

pub loop-number-preserved : goal.loop-number-preserved
loop-number-preserved c = elim c.if-labels-number.branch [
  | then-labels-number+in_ok-push w ↦
      let longer : w.push.new.self.items ≡ c.loop-number.order.items ++ (slice_index c.args.numbers.now
      c.loop-number.number-index ∷ []) = w.in_ok-push.ensures.items in
      rw (w.labels-is, w.order-is, longer)
      (spread_more _ _ _ _ _ _ _ _ c.loop-number.invariant c.requires.lowest c.requires.at c.requires.marked
      (omega arith) (c.requires.touching.each c.loop-number.number-index c.loop-number-test.true))
  | else-labels-number w ↦
      rw (w.labels-is, w.order-is) (spread_same _ _ _ _ _ _ _ _ c.loop-number.invariant (omega arith))
]
