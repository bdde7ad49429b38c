use Rattle.std.proofs.Common.{◌≡◌, ◌++◌, ◌∷◌, [], arith}
use Rattle.shape_extract.proofs.Searching.{said_true, said_false}
use Rattle.shape_extract.proofs.LineRoutes.{begun_none, begun_start, begun_other, begun_all}
use Rattle.shape_extract.proofs.lines.line_walk.begin.Goals as goal
use Rattle.shape_extract.proofs.lines.line_walk.begin.Goals.{then-is_part+in_ok-push, else-is_part}

pub loop-n-init : goal.loop-n-init
loop-n-init c = begun_none _ _ _ c.requires.fresh c.requires.long c.requires.none

pub loop-n-preserved : goal.loop-n-preserved
loop-n-preserved c = elim c.if-is_part.branch [
  | then-is_part+in_ok-push w ↦
      let longer : w.push.new.self.items ≡ c.loop-n.order.items ++ (c.loop-n.n ∷ []) = w.in_ok-push.ensures.items in
      rw (w.before-is, w.order-is, longer)
      (begun_start _ _ _ _ c.loop-n.invariant (omega arith) (said_true _ _ c.is_part.ensures w.if-is_part.true))
  | else-is_part w ↦
      rw (w.before-is, w.order-is)
      (begun_other _ _ _ _ c.loop-n.invariant (omega arith) (said_false _ _ c.is_part.ensures w.if-is_part.false))
]

pub returns : goal.returns
returns c = begun_all _ _ _ _ (omega arith) c.loop-n.invariant
