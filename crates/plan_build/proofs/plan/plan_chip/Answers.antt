use Rattle.std.proofs.lemmas.Result.{err_from_is_err_and}
use Rattle.std.proofs.Common.{sym, subst}
use Rattle.plan_build.specs.Laws.{AnswersAs}
use Rattle.plan_build.proofs.ChipLaws.{chip_answers}
use Rattle.plan_build.proofs.Given.{chip_given, drawn_given, refused}
use Rattle.plan_build.proofs.plan.plan_chip.Goals as goal

pub returns-clause-draws : goal.returns-clause-draws
returns-clause-draws c =
    drawn_given c.args.library.now c.in_ok-chip_plan.field-0 c.args.net.now c.in_ok-chip_plan.ensures
    c.known.ensures.library c.in_ok-run.field-0 c.in_ok-run.ensures.given

pub returns-clause-answers : goal.returns-clause-answers
returns-clause-answers c =
    let l = c.args.library.now in
    let net = c.args.net.now in
    let plan = c.in_ok-chip_plan.field-0 in
    let given = chip_given l plan net c.in_ok-chip_plan.ensures c.in_ok-run.field-0 c.in_ok-run.ensures.given in
    subst (AnswersAs net) (sym given.1) (chip_answers l net c.known.ensures.library given.0 given.2)

pub returns-in_err-run-clause-refused : goal.returns-in_err-run-clause-refused
returns-in_err-run-clause-refused c =
    let l = c.args.library.now in
    let net = c.args.net.now in
    let plan = c.in_ok-chip_plan.field-0 in
    let said = refused l plan net c.in_ok-chip_plan.ensures c.in_err-run.field-0.0 c.in_err-run.ensures.met in
    let p = err_from_is_err_and c.from_residual-in_err-run.result c.from_residual-in_err-run.ensures.1 in
    rw (p.1, p.2) said
