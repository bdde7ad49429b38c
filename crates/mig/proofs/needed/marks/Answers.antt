use Rattle.std.proofs.Common.{◌≡◌, ◌+◌, ◌-◌, List, Bool, false, sym, ap, ◌∙◌, subst, arith, length}
use Rattle.std.specs.Prelude.{slice_index_or}
use Rattle.std.proofs.lemmas.Option.{slice_get-get_or}
use Rattle.mig.proofs.Marked.{ClosedFrom, outputs_kept, three_size, closed_marked, closed_other, all_needed}
use Rattle.mig.proofs.needed.marks.Goals as goal

pub loop-left-preserved-then-is_marked : goal.loop-left-preserved-then-is_marked
loop-left-preserved-then-is_marked c =
    let sized = three_size c.loop-left.marks.items _ _ c.mark_operands.ensures in
    let size = c.loop-left.invariant.size in
    let at : c.loop-left.left ≡ (c.loop-left.left - 1) + 1 = omega arith in
    record {
      low = omega arith;
      size = omega arith;
      outs = outputs_kept c.loop-left.marks.items _ c.args.outputs.now
          (length c.args.outputs.now) _ c.mark_operands.ensures c.loop-left.invariant.outs;
      closed = closed_marked
          (c.loop-left.left - 1) c.args.inputs c.args.nodes.now c.loop-left.marks.items _ _ c.requires.nodes size
          (slice_get-get_or c.args.nodes.now (c.loop-left.left - 1) (record { x = 0; y = 0; z = 0 }) (omega arith))
          c.mark_operands.ensures
          (subst (λ k. ClosedFrom k c.args.inputs c.args.nodes.now c.loop-left.marks.items) at
          c.loop-left.invariant.closed);
    }

pub loop-left-preserved : goal.loop-left-preserved
loop-left-preserved c =
    let at : c.loop-left.left ≡ (c.loop-left.left - 1) + 1 = omega arith in
    let is : slice_index_or c.loop-left.marks.items (1 + c.args.inputs + (c.loop-left.left - 1)) false ≡ false
    = (let e : 1 + c.args.inputs + (c.loop-left.left - 1) ≡ (c.args.inputs + 1) + (c.loop-left.left - 1) =
    omega arith in
    ap (λ i. slice_index_or c.loop-left.marks.items i false) e
    ∙ ap (λ (ls : List Bool). slice_index_or ls ((c.args.inputs + 1) + (c.loop-left.left - 1)) false)
    (sym c.deref.ensures.value)
    ∙ sym c.is_marked.ensures ∙ c.if-is_marked.false) in
    record {
      low = omega arith;
      size = c.loop-left.invariant.size;
      outs = c.loop-left.invariant.outs;
      closed = closed_other (c.loop-left.left - 1) c.args.inputs c.args.nodes.now c.loop-left.marks.items is
          (subst (λ k. ClosedFrom k c.args.inputs c.args.nodes.now c.loop-left.marks.items) at
          c.loop-left.invariant.closed);
    }

pub returns : goal.returns
returns c = all_needed _ _ _ _ c.loop-left.left (omega arith) c.loop-left.invariant.outs c.loop-left.invariant.closed
