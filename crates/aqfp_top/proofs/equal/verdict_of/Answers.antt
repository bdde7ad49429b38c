use Rattle.std.proofs.lemmas.Result.{err_from_is_err_and}
use Rattle.aqfp_top.proofs.OneStream.{one_layout}
use Rattle.aqfp_top.proofs.OneComparison.{widths_none}
use Rattle.aqfp_top.proofs.Comparing.{always_well, comparison_answers, verdicts, widths_answer}
use Rattle.aqfp_top.proofs.equal.verdict_of.Goals as goal

pub returns-in_err-check_widths-clause-found : goal.returns-in_err-check_widths-clause-found
returns-in_err-check_widths-clause-found c = λ gds lib text both.
    let p = err_from_is_err_and c.from_residual.result c.from_residual.ensures.1 in
    rw p.1 tt

pub returns-in_err-check_widths-clause-well : goal.returns-in_err-check_widths-clause-well
returns-in_err-check_widths-clause-well c = λ gds lib text both before.
    let p = err_from_is_err_and c.from_residual.result c.from_residual.ensures.1 in
    rw p.1 tt

pub returns-in_err-check_widths-clause-bad : goal.returns-in_err-check_widths-clause-bad
returns-in_err-check_widths-clause-bad c = λ gds lib text both before.
    let bad = widths_answer gds lib text c.args.circuit.now c.args.net.now c.in_err-check_widths.field-0.0 both before
    c.in_err-check_widths.ensures.bad in
    let p = err_from_is_err_and c.from_residual.result c.from_residual.ensures.1 in
    rw (p.1, p.2) bad

pub returns-clause-found : goal.returns-clause-found
returns-clause-found c = λ gds lib text both.
    verdicts gds lib text c.args.circuit.now c.args.net.now c.compare.result both c.known.ensures
    c.known-2.ensures c.compare.ensures.ok

pub returns-clause-well : goal.returns-clause-well
returns-clause-well c = λ gds lib text both before.
    always_well gds lib text c.compare.result before
    (widths_none (one_layout c.one_wide_reading.ensures.layout) c.one_circuit.ensures gds lib text
    c.args.circuit.now c.args.net.now both
    c.in_ok-check_widths.ensures.inputs c.in_ok-check_widths.ensures.outputs)

pub returns-clause-bad : goal.returns-clause-bad
returns-clause-bad c = λ gds lib text both before.
    comparison_answers gds lib text c.args.circuit.now c.args.net.now c.compare.result both before
    (widths_none (one_layout c.one_wide_reading.ensures.layout) c.one_circuit.ensures gds lib text
    c.args.circuit.now c.args.net.now both
    c.in_ok-check_widths.ensures.inputs c.in_ok-check_widths.ensures.outputs)
    c.compare.ensures.bad
