use Rattle.std.proofs.Common.{subst, OnOk, IfErr}
use Rattle.text_answers.specs.Printing.{PrintsLine, RefusesLine}
use Rattle.text_answers.proofs.Pages.{refuses_line}
use Rattle.text_answers.proofs.InBlocks.{answer_lines}
use Rattle.text_answers.proofs.blocks.print_block.Goals as goal

pub returns-in-Ok-clause-put : goal.returns-in-Ok-clause-put
returns-in-Ok-clause-put g c = λ answer due.
    subst (λ lines. OnOk c.print_lanes.result
    (PrintsLine (g.O.Sink.output c.args.out.now)
    (g.O.Sink.output c.print_lanes.new.out) c.args.page.now.items c.print_lanes.new.page.items lines))
    (answer_lines c.args.circuit.now c.args.lanes.now.words.items c.answer_lanes.new.lanes.words.items
    c.answer_lanes.new.lanes.answers.items c.as_slice.result.now answer c.args.count c.requires
    (λ word first second. c.one_answer.ensures.only c.args.circuit.now word first second c.known.ensures)
    c.answer_lanes.ensures.words c.as_slice.ensures.value c.in-Ok.ensures.answers due)
    c.print_lanes.ensures.put

pub returns-in-Ok-clause-refused : goal.returns-in-Ok-clause-refused
returns-in-Ok-clause-refused g c = λ answer due.
    subst (λ lines. IfErr c.print_lanes.result
    (RefusesLine (g.O.Sink.output c.args.out.now)
    (g.O.Sink.output c.print_lanes.new.out) c.args.page.now.items lines))
    (answer_lines c.args.circuit.now c.args.lanes.now.words.items c.answer_lanes.new.lanes.words.items
    c.answer_lanes.new.lanes.answers.items c.as_slice.result.now answer c.args.count c.requires
    (λ word first second. c.one_answer.ensures.only c.args.circuit.now word first second c.known.ensures)
    c.answer_lanes.ensures.words c.as_slice.ensures.value c.in-Ok.ensures.answers due)
    c.print_lanes.ensures.refused

pub returns-in-Err-clause-refused : goal.returns-in-Err-clause-refused
returns-in-Err-clause-refused g c = λ answer due. refuses_line _ _ _
