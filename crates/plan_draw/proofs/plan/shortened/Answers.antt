use Rattle.std.proofs.lemmas.Result.{err_from_is_err_and}
use Rattle.plan_draw.proofs.Steps.{short_given, past_refused}
use Rattle.plan_draw.proofs.plan.shortened.Goals as goal

pub returns-clause-short : goal.returns-clause-short
returns-clause-short c =
    let pass = c.repeating.result in
    short_given c.args.library.now c.args._net.now c.args.placed.now c.in_ok-run.field-0 pass.reach pass.height
    pass.channel c.repeating.ensures.reach c.repeating.ensures.height c.repeating.ensures.channel c.requires
    c.repeaters_count.ensures.given c.in_ok-run.ensures.given

pub returns-in_err-run-clause-refused : goal.returns-in_err-run-clause-refused
returns-in_err-run-clause-refused c =
    let pass = c.repeating.result in
    let said = past_refused c.args.library.now c.args._net.now c.args.placed.now c.in_err-run.field-0.0 pass.reach
    pass.height pass.channel c.repeating.ensures.reach c.repeating.ensures.height c.repeating.ensures.channel c.requires
    c.in_err-run.ensures.met in
    let p = err_from_is_err_and c.from_residual.result c.from_residual.ensures.1 in
    rw (p.1, p.2) said
