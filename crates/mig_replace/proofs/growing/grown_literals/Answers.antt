use Rattle.std.proofs.Common.{List, ℕ, subst, sym, arith, length}
use Rattle.mig.specs.Carried.{Shows}
use Rattle.mig.proofs.Shown.{one_longer}
use Rattle.mig_replace.specs.Code.Cones.{Carries}
use Rattle.mig_replace.proofs.Carrying.{first_carries, carries_later, carries_more}
use Rattle.mig_replace.proofs.growing.grown_literals.Goals as goal

pub loop-number-init : goal.loop-number-init
loop-number-init g c =
    let size = c.in_ok-found.ensures.all in
    let same = c.inputs.ensures in
    record {
      size = omega arith;
      carries = first_carries c.args.graph.now c.args.builder.now c.in_ok-found.found.items c.requires
          (omega arith) (λ i lt. c.in_ok-found.ensures.each i (omega arith));
    }

pub grown_literal-requires-clause-carries : goal.grown_literal-requires-clause-carries
grown_literal-requires-clause-carries g c =
    carries_later c.args.graph.now c.loop-number.builder c.all_prepared.new.builder c.as_slice-made.result.now
    c.in_ok-all_prepared.ensures
    (subst (λ (ls : List ℕ). Carries c.args.graph.now c.loop-number.builder ls) (sym c.as_slice-made.ensures.value)
    c.loop-number.invariant.carries)

pub loop-number-preserved : goal.loop-number-preserved
loop-number-preserved g c =
    let longer = one_longer c.loop-number.found.items _ c.in_ok-literal.literal c.in_ok-push.ensures.items in
    let size = c.loop-number.invariant.size in
    record {
      size = omega arith;
      carries = carries_more c.args.graph.now c.all_prepared.new.builder c.grown_literal.new.builder
          c.loop-number.found.items _ c.in_ok-literal.literal
          (carries_later c.args.graph.now c.loop-number.builder c.all_prepared.new.builder c.loop-number.found.items
          c.in_ok-all_prepared.ensures c.loop-number.invariant.carries)
          c.in_ok-literal.ensures.grown
          (subst
          (λ (ls : List ℕ). Shows c.args.graph.now c.grown_literal.new.builder (length ls) c.in_ok-literal.literal)
          c.as_slice-made.ensures.value c.in_ok-literal.ensures.shown)
          c.in_ok-push.ensures.items;
    }
