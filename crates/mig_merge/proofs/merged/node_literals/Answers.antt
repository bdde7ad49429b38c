use Rattle.std.proofs.Common.{List, ℕ, subst, arith, length}
use Rattle.mig.specs.Carried.{Shows}
use Rattle.mig.proofs.Shown.{one_longer}
use Rattle.mig_replace.proofs.Carrying.{first_carries, carries_more}
use Rattle.mig_merge.proofs.merged.node_literals.Goals as goal

pub loop-number-init : goal.loop-number-init
loop-number-init c =
    let size = c.in_ok-found.ensures.all in
    let same = c.inputs.ensures in
    record {
      size = omega arith;
      carries = first_carries c.args.graph.now c.args.merging.now c.in_ok-found.found.items c.requires
          (omega arith) (λ i lt. c.in_ok-found.ensures.each i (omega arith));
    }

pub loop-number-preserved : goal.loop-number-preserved
loop-number-preserved c =
    let longer = one_longer c.loop-number.found.items _ c.in_ok-literal.literal c.in_ok-push.ensures.items in
    let size = c.loop-number.invariant.size in
    record {
      size = omega arith;
      carries = carries_more c.args.graph.now c.loop-number.merging c.node_literal.new.merging
          c.loop-number.found.items _ c.in_ok-literal.literal
          c.loop-number.invariant.carries c.in_ok-literal.ensures.grown
          (subst
          (λ (ls : List ℕ). Shows c.args.graph.now c.node_literal.new.merging (length ls) c.in_ok-literal.literal)
          c.as_slice-made.ensures.value c.in_ok-literal.ensures.shown)
          c.in_ok-push.ensures.items;
    }
