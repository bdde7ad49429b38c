use Rattle.text_answers.specs.Printing.{IsPrinted}
use Rattle.text_report.specs.Code.Figures.{text_of}
use Rattle.text_report.proofs.printing.print_figures.Given as goal

abbrev pub invariant-loop-row : goal.invariant-loop-row
invariant-loop-row g l =
    IsPrinted (g.O.Sink.output l.initial.out) (g.O.Sink.output l.out) l.page.items (text_of l.figures l.limit l.row)
