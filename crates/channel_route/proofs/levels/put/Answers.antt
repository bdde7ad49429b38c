use Rattle.std.proofs.Common.{◌∙◌, arith}
use Rattle.channel_route.proofs.Minima.{put_set, put_push}
use Rattle.channel_route.proofs.levels.put.Goals as goal
use Rattle.channel_route.proofs.levels.put.Goals.{then-at-len, else-at-len+in_ok-push}

pub returns-clause-level : goal.returns-clause-level
returns-clause-level c = elim c.if-at-len.branch [
  | then-at-len w ↦ w.level-is ∙ w.set.ensures ∙ put_set _ _ _ (omega (arith, w.if-at-len.true, c.len.ensures))
  | else-at-len+in_ok-push w ↦ w.level-is ∙ w.in_ok-push.ensures.ok
      ∙ put_push _ _ _ (omega (arith, w.if-at-len.false, c.len.ensures))
]
