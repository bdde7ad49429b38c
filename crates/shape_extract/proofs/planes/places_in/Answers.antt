use Rattle.std.proofs.Common.{◌≡◌, ◌∙◌, sym, [], ◌∷◌, ◌++◌, arith}
use Rattle.std.proofs.lemmas.Option.{slice_get_within}
use Rattle.shape_extract.specs.Passing.{PassesIn}
use Rattle.shape_extract.specs.Planes.{in_plane}
use Rattle.shape_extract.proofs.Passing.{passes_got, fails_got}
use Rattle.shape_extract.proofs.Searching.{those_more, those_same, those_all}
use Rattle.shape_extract.proofs.planes.places_in.Goals as goal
use Rattle.shape_extract.proofs.planes.places_in.Goals.{then-holds+in_ok-push, else-holds}

pub loop-place-preserved : goal.loop-place-preserved
loop-place-preserved c =
    elim c.if-holds.branch [
      | then-holds+in_ok-push w ↦
          let longer : w.push.new.self.items ≡ c.loop-place.places.items ++ (c.loop-place.place ∷ []) =
          w.in_ok-push.ensures.items in
          rw (w.places-is, longer)
          (those_more (PassesIn (in_plane c.args.plane) c.args.kinds.now) c.loop-place.place
          c.loop-place.places.items c.loop-place.invariant (passes_got (in_plane c.args.plane) c.args.kinds.now
          c.loop-place.place c.get.result.now c.get.ensures
          (sym c.holds.ensures ∙ w.if-holds.true)))
      | else-holds w ↦ rw w.places-is
          (those_same (PassesIn (in_plane c.args.plane) c.args.kinds.now) c.loop-place.place
          c.loop-place.places.items c.loop-place.invariant (fails_got (in_plane c.args.plane) c.args.kinds.now
          c.loop-place.place c.get.result.now c.get.ensures
          (sym c.holds.ensures ∙ w.if-holds.false)))
    ]

pub returns : goal.returns
returns c = those_all (PassesIn (in_plane c.args.plane) c.args.kinds.now) _ c.loop-place.place
    c.loop-place.places.items c.loop-place.invariant (omega arith)
    (λ m pass. slice_get_within c.args.kinds.now m pass.item pass.item_is)
