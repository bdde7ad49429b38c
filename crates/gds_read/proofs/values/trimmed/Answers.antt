use Rattle.std.proofs.Common.{refl, ◌∙◌, arith}
use Rattle.gds_read.proofs.Trims.{trim_step, trim_end, trim_none}
use Rattle.gds_read.proofs.values.trimmed.Goals as goal
use Rattle.gds_read.proofs.values.trimmed.Goals.{then-zeros-test+else-content-end-eq0, else-zeros-test}

pub zeros-preserved : goal.zeros-preserved
zeros-preserved c =
    let i = c.zeros.invariant in
    record { within = omega arith; same = trim_step _ _ _ i.within (omega arith) refl c.if-content-end-eq0.true i.same }

pub returns : goal.returns
returns c =
    let i = c.zeros.invariant in
    c.split_at.ensures.front ∙ elim c.zeros-test.branch [
      | then-zeros-test+else-content-end-eq0 w ↦ trim_end _ _ _ i.within
          (omega arith) refl w.if-content-end-eq0.false i.same
      | else-zeros-test w ↦ trim_none _ _ (omega arith) i.same
    ]
