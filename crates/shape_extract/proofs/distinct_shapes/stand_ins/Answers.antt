use Rattle.std.proofs.Common.{◌≡◌, ◌<◌, ◌++◌, ◌∷◌, [], ◌∙◌, length, arith, rules}
use Rattle.std.specs.Prelude.{slice_index}
use Rattle.std.proofs.lemmas.Grind.{get_or_default_zero}
use Rattle.shape_extract.proofs.LeastHeads.{own_more}
use Rattle.shape_extract.proofs.StandIns.{place_shared, place_own}
use Rattle.shape_extract.proofs.distinct_shapes.stand_ins.Goals as goal
use Rattle.shape_extract.proofs.distinct_shapes.stand_ins.Goals.{then-head-n+in_ok-push}
use Rattle.shape_extract.proofs.distinct_shapes.stand_ins.Goals.{else-head-n+in_ok-push-2+in_ok-push-3}

pub loop-n-preserved : goal.loop-n-preserved
loop-n-preserved c = elim c.if-head-n.branch [
  | then-head-n+in_ok-push w ↦
      let head_below : slice_index c.args.heads.now c.loop-n.n < c.loop-n.n = w.if-head-n.true in
      let is : w.index-place.result.now ≡ slice_index c.loop-n.places.items (slice_index c.args.heads.now c.loop-n.n) =
      w.index-place.ensures
      ∙ get_or_default_zero c.loop-n.places.items (slice_index c.args.heads.now c.loop-n.n) w.index-place.result.now
      (omega (arith, c.loop-n.invariant.places.long)) in
      let longer : w.push.new.self.items ≡ c.loop-n.places.items ++ (w.index-place.result.now ∷ []) =
      w.in_ok-push.ensures.items in
      record {
        places = rw (w.numbers-is, w.places-is, longer, is) (place_shared c.loop-n.n c.args.shapes.now
            c.loop-n.numbers.items c.loop-n.places.items c.loop-n.invariant.places
            (slice_index c.args.heads.now c.loop-n.n) head_below (c.requires.heads.alike c.loop-n.n (omega arith)));
        own = rw w.numbers-is c.loop-n.invariant.own;
      }
  | else-head-n+in_ok-push-2+in_ok-push-3 w ↦
      let place : w.push-else-head-n.new.self.items ≡ c.loop-n.places.items ++ (w.len.result ∷ []) =
      w.in_ok-push-2.ensures.items in
      let count : w.len.result ≡ length c.loop-n.numbers.items = search rules in
      let number : w.push-else-head-n-2.new.self.items ≡ c.loop-n.numbers.items ++ (c.loop-n.n ∷ []) =
      w.in_ok-push-3.ensures.items in
      record {
        places = rw (w.numbers-is, w.places-is, place, number, count) (place_own c.loop-n.n c.args.shapes.now
            c.loop-n.numbers.items c.loop-n.places.items c.loop-n.invariant.places);
        own = rw (w.numbers-is, number) (own_more _ _ _ c.loop-n.invariant.own
            (omega (arith, c.requires.heads.not_above c.loop-n.n, w.if-head-n.false)));
      }
]
