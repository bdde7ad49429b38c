use Rattle.std.proofs.Common.{arith, ◌+◌}
use Rattle.mig.specs.Carried.{Shows, fits_graph}
use Rattle.mig_rewrite.proofs.Carrying.{first_carries, carries_more, when_some, one_longer}
use Rattle.mig_rewrite.proofs.remap.node_literals.Goals as goal

pub loop-number-init : goal.loop-number-init
loop-number-init c =
    let first = c.in_ok-found.ensures in
    let size = first.sized in
    let same = c.inputs.ensures in
    record {
      size = omega arith;
      carries = first_carries c.args.graph.now c.args.builder.now c.in_ok-found.found.items c.inputs.result c.requires
          c.inputs.ensures first;
    }

pub loop-number-preserved : goal.loop-number-preserved
loop-number-preserved c =
    let longer =
    one_longer c.loop-number.found.items c.push.new.self.items c.in_ok-literal.literal c.in_ok-push.ensures.items in
    let size = c.loop-number.invariant.size in
    let first = c.inputs-first.ensures in
    record {
      size = omega arith;
      carries = carries_more c.args.graph.now c.loop-number.builder c.node_literal.new.builder
          c.loop-number.found.items c.push.new.self.items c.in_ok-literal.literal _
          (omega arith) c.in_ok-literal.ensures.grown
          (λ l e. when_some
          (λ m. Shows c.args.graph.now c.node_literal.new.builder
          (c.inputs-first.result + 1 + c.loop-number.number) m) c.in_ok-literal.literal l
          c.in_ok-literal.ensures.shown e)
          c.in_ok-push.ensures.items c.loop-number.invariant.carries;
    }
