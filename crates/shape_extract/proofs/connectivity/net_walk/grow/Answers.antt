use Rattle.std.proofs.Common.{◌<◌, ◌∙◌, length, arith}
use Rattle.std.proofs.lemmas.Grind.{get_or_default_zero}
use Rattle.shape_extract.proofs.NetWalk.{done_next, still_next, done_all}
use Rattle.shape_extract.proofs.connectivity.net_walk.grow.Goals as goal

pub loop-done-preserved : goal.loop-done-preserved
loop-done-preserved c =
    let lt : c.loop-done.done < length c.loop-done.walk.order.items = omega arith in
    let is = c.index-from.ensures
    ∙ get_or_default_zero _ _ _ lt in
    record {
      done_to = done_next c.args.kinds.now c.loop-done.walk c.reach.new.walk c.loop-done.done c.args.mark _
          c.loop-done.invariant.done_to lt is c.in_ok-reach.ensures.reached c.in_ok-reach.ensures.told;
      still = λ k lk. still_next c.args.kinds.now c.loop-done.walk c.reach.new.walk _
          c.in_ok-reach.ensures.reached k (c.loop-done.invariant.still k lk);
    }

pub returns : goal.returns
returns c = done_all c.args.kinds.now c.args.walk.now c.loop-done.walk c.loop-done.done c.args.mark (omega arith)
    c.loop-done.invariant.done_to c.loop-done.invariant.still
