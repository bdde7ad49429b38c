use Rattle.std.proofs.Common.{[], ◌∷◌, ◌++◌, Some, subst, arith}
use Rattle.blif_flat.specs.Code.Joins.{ArePlaces}
use Rattle.blif_flat.proofs.Outlining.{part_more}
use Rattle.blif_flat.proofs.models.outlines.add_inputs.Goals as goal

pub loop-input-preserved : goal.loop-input-preserved
loop-input-preserved c = record {
  places = part_more (λ n. Some n.name ∷ []) c.args.inputs.now c.loop-input.input-index c.input-item.result _
      c.loop-input.places.entries c.add_name.new.places.entries c.args.count c.loop-input.next c.in_ok-next.next
      c.loop-input-test.true c.input-item.is c.loop-input.invariant.places
      (λ names places. subst (λ n. ArePlaces c.add_name.new.places.entries c.in_ok-next.next (names ++ Some n ∷ []))
      c.as_slice.ensures (c.in_ok-next.ensures.places names places));
  next = omega (arith, c.in_ok-next.ensures.next, c.loop-input.invariant.next);
}
