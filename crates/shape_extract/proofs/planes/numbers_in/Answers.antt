use Rattle.std.proofs.Common.{◌≡◌, ◌∙◌, sym, [], ◌∷◌, ◌++◌, arith}
use Rattle.std.proofs.lemmas.Option.{slice_get_within}
use Rattle.shape_extract.specs.Passing.{PassesIn}
use Rattle.shape_extract.specs.Planes.{in_plane}
use Rattle.shape_extract.proofs.Passing.{passes_here, fails_here}
use Rattle.shape_extract.proofs.Searching.{those_more, those_same, those_all}
use Rattle.shape_extract.proofs.planes.numbers_in.Goals as goal
use Rattle.shape_extract.proofs.planes.numbers_in.Goals.{then-holds+in_ok-push, else-holds}

pub loop-number-preserved : goal.loop-number-preserved
loop-number-preserved c =
    elim c.if-holds.branch [
      | then-holds+in_ok-push w ↦
          let longer : w.push.new.self.items ≡ c.loop-number.numbers.items ++ (c.loop-number.number ∷ []) =
          w.in_ok-push.ensures.items in
          rw (w.numbers-is, longer)
          (those_more (PassesIn (in_plane c.args.plane) c.args.shapes.now) c.loop-number.number
          c.loop-number.numbers.items c.loop-number.invariant (passes_here (in_plane c.args.plane) c.args.shapes.now
          c.loop-number.number c.index-shapes-number.result (omega arith) c.index-shapes-number.is
          (sym c.holds.ensures ∙ w.if-holds.true)))
      | else-holds w ↦ rw w.numbers-is
          (those_same (PassesIn (in_plane c.args.plane) c.args.shapes.now) c.loop-number.number
          c.loop-number.numbers.items c.loop-number.invariant (fails_here (in_plane c.args.plane) c.args.shapes.now
          c.loop-number.number c.index-shapes-number.result c.index-shapes-number.is
          (sym c.holds.ensures ∙ w.if-holds.false)))
    ]

pub returns : goal.returns
returns c = those_all (PassesIn (in_plane c.args.plane) c.args.shapes.now) _ c.loop-number.number
    c.loop-number.numbers.items c.loop-number.invariant (omega arith)
    (λ m pass. slice_get_within c.args.shapes.now m pass.item pass.item_is)
