use Rattle.std.proofs.Common.{subst, IfErr}
use Rattle.std.proofs.lemmas.Result.{err_from_is_err_and}
use Rattle.circuit_extracted.specs.Circuits.{CircuitView}
use Rattle.text_answers.specs.Counts.{counts_line}
use Rattle.text_answers.specs.Printing.{PrintsWithin}
use Rattle.text_answers.proofs.Pages.{within_first, second_within}
use Rattle.text_report.specs.Code.Figures.{text_of}
use Rattle.text_report.proofs.printing.print_lines.Goals as goal

pub returns-in_err-print_counts-clause-part : goal.returns-in_err-print_counts-clause-part
returns-in_err-print_counts-clause-part g c =
    let p = err_from_is_err_and c.from_residual.result c.from_residual.ensures.1 in
    rw (p.1, p.2) (within_first _ c.in_err-print_counts.ensures.part)

pub returns-clause-part : goal.returns-clause-part
returns-clause-part g c =
    let middle = g.O.Sink.output c.print_counts.new.out in
    let last = g.O.Sink.output c.print_figures.new.out in
    second_within (g.O.Sink.output c.args.out.now) middle last
    (counts_line c.args.circuit.now) (text_of c.args.figures.now c.args.limit c.args.circuit.now.rows)
    c.print_figures.result c.in_ok-print_counts.ensures.added
    (subst (λ (v : CircuitView). IfErr c.print_figures.result
    (PrintsWithin middle last (text_of c.args.figures.now c.args.limit v.rows)))
    c.circuit.view_is c.print_figures.ensures.part)
