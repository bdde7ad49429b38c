use Rattle.std.proofs.Common.{◌≡◌, List, ℕ, true, false, subst, ap, ◌∙◌, arith, length}
use Rattle.std.specs.Prelude.{slice_index_or}
use Rattle.mig.specs.Carried.{Shows}
use Rattle.mig.proofs.RebuiltGraphs.{carries_first, carries_more, no_marks}
use Rattle.mig.proofs.Shown.{one_longer}
use Rattle.mig.proofs.rebuilt.node_literals.Goals as goal

pub loop-number-init : goal.loop-number-init
loop-number-init c =
    let size = c.in_ok-found.ensures.all in
    let same = c.inputs.ensures in
    record {
      size = omega arith;
      few = λ none. (let start = ap (λ b. length b.nodes) c.requires.start in omega arith);
      carries = carries_first c.args.graph.now c.args.marks.now _ c.in_ok-found.found.items
          (ap (λ b. b.inputs) c.requires.start) (omega arith) (λ i lt. c.in_ok-found.ensures.each i (omega arith));
    }

pub loop-number-preserved : goal.loop-number-preserved
loop-number-preserved c =
    let longer = one_longer c.loop-number.found.items _ c.in_ok-literal.literal c.in_ok-push.ensures.items in
    let size = c.loop-number.invariant.size in
    record {
      size = omega arith;
      few = λ none.
          let one = c.node_literal.ensures.few
          (c.is_marked-is_critical.ensures ∙ no_marks c.args.critical.now _ none) in
          let before = c.loop-number.invariant.few none in omega arith;
      carries = carries_more _ c.args.marks.now _ _ c.loop-number.found.items _ c.in_ok-literal.literal
          c.loop-number.invariant.carries c.in_ok-literal.ensures.grown
          (subst (λ (ls : List ℕ). slice_index_or c.args.marks.now (length ls) false ≡ true
          → Shows c.args.graph.now c.node_literal.new.builder (length ls) c.in_ok-literal.literal)
          c.deref.ensures.value c.in_ok-literal.ensures.shown)
          c.in_ok-push.ensures.items;
    }
