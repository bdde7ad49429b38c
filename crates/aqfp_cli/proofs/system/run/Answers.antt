use Rattle.std.proofs.Common.{◌≡◌, List, [], subst}
use Rattle.aq_base.specs.History.{Event}
use Rattle.aq_base.specs.StandardStore.{output_of, history_of}
use Rattle.aqfp_top.specs.Words.{spelled}
use Rattle.aqfp_top.specs.Lines.{Reports, IsCutShort}
use Rattle.aqfp_top.specs.Shown.{HearsShapes}
use Rattle.aqfp_cli.specs.Quiet.{quiet}
use Rattle.aqfp_cli.proofs.Refusals.{reports_failures}
use Rattle.aqfp_cli.proofs.system.run.Goals as goal

pub returns-clause-shown : goal.returns-clause-shown
returns-clause-shown g c first second is ends =
    let words = spelled c.args.words.now in
    let files = history_of c.aqfp_run-ending.new.files in
    let out = output_of c.aqfp_run-ending.new.out in
    subst (λ (h : List Event). HearsShapes [] files words first second
    (record { history = h }) out)
    c.requires.quiet_out
    (subst (λ (h : List Event). HearsShapes h files words first second (output_of c.args.out) out) c.requires.untouched
    (c.aqfp_run-ending.ensures.hears_shapes first second is ends))

pub returns-clause-reports : goal.returns-clause-reports
returns-clause-reports g c =
    let words = spelled c.args.words.now in
    let fault = c.aqfp_run-ending.result.fault in
    let err = c.aqfp_run-ending.new.err in
    reports_failures quiet (output_of err) words fault err.remembers
    (subst (λ (h : List Event). Reports IsCutShort (record { history = h })
    (output_of err) words fault)
    c.requires.quiet_err c.aqfp_run-ending.ensures.reports)
