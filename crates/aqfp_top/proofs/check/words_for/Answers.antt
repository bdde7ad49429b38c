use Rattle.std.proofs.Common.{subst}
use Rattle.circuit_extracted.specs.Circuits.{CircuitView}
use Rattle.text_answers.specs.WordsText.{SaysWords, IsBadLine}
use Rattle.aqfp_top.proofs.OneStream.{one_layout}
use Rattle.aqfp_top.proofs.Judging.{is_sound, words_are_well, misworded_answers}
use Rattle.aqfp_top.proofs.OneCheck.{words_none}
use Rattle.aqfp_top.proofs.check.words_for.Goals as goal

pub returns-in-Ok-clause-well : goal.returns-in-Ok-clause-well
returns-in-Ok-clause-well c = λ gds lib makes before.
    words_are_well gds lib c.args.text.now before
    (words_none (one_layout c.one_wide_reading.ensures.layout) c.one_circuit.ensures gds lib
    c.args.text.now c.args.circuit.now
    (is_sound gds lib c.args.text.now c.args.circuit.now makes
    (subst (λ (circuit : CircuitView). SaysWords circuit.inputs c.args.text.now)
    c.circuit.view_is c.in-Ok.ensures.says)))

pub returns-in-Err-clause-bad : goal.returns-in-Err-clause-bad
returns-in-Err-clause-bad c = λ gds lib makes before.
    misworded_answers gds lib c.args.text.now c.args.circuit.now c.in-Err.bad.line makes before
    (subst (λ (circuit : CircuitView). IsBadLine circuit.inputs c.args.text.now c.in-Err.bad.line)
    c.circuit.view_is c.in-Err.ensures.bad)

pub returns-in-Ok-clause-bad : goal.returns-in-Ok-clause-bad
returns-in-Ok-clause-bad c = λ gds lib makes before. tt

pub returns-in-Err-clause-well : goal.returns-in-Err-clause-well
returns-in-Err-clause-well c = λ gds lib makes before. tt
