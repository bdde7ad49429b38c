use Rattle.std.proofs.Common.{[], ◌∷◌, ◌++◌, Some, subst, arith}
use Rattle.blif_flat.specs.Code.Joins.{ArePlaces}
use Rattle.blif_flat.proofs.Outlining.{part_more}
use Rattle.blif_flat.proofs.models.outlines.add_defs.Goals as goal

pub loop-def-preserved : goal.loop-def-preserved
loop-def-preserved c = record {
  places = part_more (λ d. Some d.output ∷ []) c.args.defs.now c.loop-def.def-index c.def-item.result _
      c.loop-def.places.entries c.add_name.new.places.entries c.args.count c.loop-def.next c.in_ok-next.next
      c.loop-def-test.true c.def-item.is c.loop-def.invariant.places
      (λ names places. subst (λ n. ArePlaces c.add_name.new.places.entries c.in_ok-next.next (names ++ Some n ∷ []))
      c.as_slice.ensures (c.in_ok-next.ensures.places names places));
  next = omega (arith, c.in_ok-next.ensures.next, c.loop-def.invariant.next);
}
