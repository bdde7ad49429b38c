use Rattle.std.proofs.Common.{◌≡◌, ◌∙◌, sym, ap, [], ◌∷◌, ◌++◌}
use Rattle.shape_extract.specs.declared.circuits.frames.Corner.{Corner}
use Rattle.shape_extract.specs.Code.Corners.{corner_of}
use Rattle.shape_extract.proofs.Marked.{got_at}
use Rattle.shape_extract.proofs.CornerLists.{corners_more, corners_same, corners_all}
use Rattle.shape_extract.proofs.circuits.frames.corners.Goals as goal
use Rattle.shape_extract.proofs.circuits.frames.corners.Goals.{then-is_frame+in_ok-push, else-is_frame}

pub loop-number-preserved : goal.loop-number-preserved
loop-number-preserved c = elim c.if-is_frame.branch [
  | then-is_frame+in_ok-push w ↦
      let longer : w.push.new.self.items ≡ c.loop-number.corners.items ++ (corner_of c.index-shapes-number.result
      c.loop-number.number ∷ []) = w.in_ok-push.ensures.items
      ∙ ap (λ (x : Corner). c.loop-number.corners.items ++ (x ∷ [])) w.corner_of.ensures in
      rw (w.corners-is, longer)
      (corners_more _ _ _ _ c.loop-number.invariant (got_at _ _ _ c.loop-number-test.true c.index-shapes-number.is)
      (sym c.is_frame.ensures ∙ w.if-is_frame.true))
  | else-is_frame w ↦ rw w.corners-is
      (corners_same _ _ _ _ c.loop-number.invariant (got_at _ _ _ c.loop-number-test.true c.index-shapes-number.is)
      (sym c.is_frame.ensures ∙ w.if-is_frame.false))
]

pub returns-clause-are : goal.returns-clause-are
returns-clause-are c = corners_all _ _ _ c.loop-number-test.false c.loop-number.invariant
