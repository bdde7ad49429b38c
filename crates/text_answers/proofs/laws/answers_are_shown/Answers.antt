use Rattle.std.proofs.Common.{subst, sym}
use Rattle.std.specs.List.{AllZip}
use Rattle.circuit_extracted.specs.Answers.{IsAnswer}
use Rattle.pulse_sim.specs.Shows.{Shows}
use Rattle.text_answers.specs.Counts.{delay_of}
use Rattle.text_answers.proofs.Shown.{some_answers, answers_are}
use Rattle.text_answers.proofs.laws.answers_are_shown.Goals as goal

pub returns-clause-shown : goal.returns-clause-shown
returns-clause-shown c = λ circuit words keeps wide.
    let some = some_answers circuit (λ word. c.one_answer.ensures.some circuit word keeps) words in
    let shows : Shows circuit (delay_of circuit) words some.0 =
    c.every_order.ensures.shows circuit words some.0 keeps wide some.1 in
    subst (Shows circuit (delay_of circuit) words)
    (sym (answers_are circuit words some.0 (λ n. c.settled_is_lawful.ensures.legal circuit words n keeps) shows))
    shows

pub returns-clause-answers : goal.returns-clause-answers
returns-clause-answers c = λ circuit words keeps wide.
    let some = some_answers circuit (λ word. c.one_answer.ensures.some circuit word keeps) words in
    let shows : Shows circuit (delay_of circuit) words some.0 =
    c.every_order.ensures.shows circuit words some.0 keeps wide some.1 in
    subst (AllZip (IsAnswer circuit) words)
    (sym (answers_are circuit words some.0 (λ n. c.settled_is_lawful.ensures.legal circuit words n keeps) shows))
    some.1
