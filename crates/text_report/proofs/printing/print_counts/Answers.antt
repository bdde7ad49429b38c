use Rattle.std.proofs.Common.{◌≡◌, ℕ, List, [], subst, OnOk, IfErr}
use Rattle.aq_base.specs.Output.{printed}
use Rattle.text_answers.specs.Printing.{PrintsWithin}
use Rattle.text_report.proofs.PrintedRows.{counts_alone}
use Rattle.text_report.proofs.printing.print_counts.Goals as goal

pub returns-clause-added : goal.returns-clause-added
returns-clause-added g c =
    let none : c.in-Ok.words ≡ [] = c.in-Ok.ensures.words in
    subst (λ (t : List ℕ). OnOk c.print_answers.result
    (g.O.Sink.output c.print_answers.new.out ≡ printed t (g.O.Sink.output c.args.out.now)))
    (counts_alone c.args.circuit.now c.in-Ok.words none) c.print_answers.ensures.added

pub returns-clause-part : goal.returns-clause-part
returns-clause-part g c =
    let none : c.in-Ok.words ≡ [] = c.in-Ok.ensures.words in
    subst (λ (t : List ℕ). IfErr c.print_answers.result
    (PrintsWithin (g.O.Sink.output c.args.out.now) (g.O.Sink.output c.print_answers.new.out) t))
    (counts_alone c.args.circuit.now c.in-Ok.words none) c.print_answers.ensures.part
