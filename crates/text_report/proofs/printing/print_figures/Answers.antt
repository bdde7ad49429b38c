use Rattle.std.proofs.Common.{◌≡◌, ◌+◌, rules, arith, subst}
use Rattle.std.proofs.lemmas.Result.{err_from_is_err_and}
use Rattle.text_answers.specs.Printing.{PrintsWithin, IsPrinted}
use Rattle.text_report.proofs.PrintedRows.{text_begins, text_more, prefix_of_rows, all_rows, rows_refused}
use Rattle.text_answers.proofs.Pages.{within_none}
use Rattle.text_report.proofs.printing.print_figures.Goals as goal

pub loop-row-init : goal.loop-row-init
loop-row-init g c = text_begins _ _ c.args.figures.now c.args.limit (search rules)

pub returns-in_err-print_row-clause-part : goal.returns-in_err-print_row-clause-part
returns-in_err-print_row-clause-part g c =
    let p = err_from_is_err_and c.from_residual.result c.from_residual.ensures.1 in
    rw (p.1, p.2) (prefix_of_rows c.args.figures.now c.args.limit
    (c.loop-row.row + 1) c.args.rows _ _ _ (search (rules, arith))
    (subst (λ t. PrintsWithin (g.O.Sink.output c.args.out.now)
    (g.O.Sink.output c.print_row.new.out) t c.in_err-print_row.field-0.0)
    (text_more c.args.figures.now c.args.limit c.loop-row.row)
    (c.in_err-print_row.ensures.refused _ _ c.loop-row.invariant)))

pub loop-row-preserved : goal.loop-row-preserved
loop-row-preserved g c =
    subst (IsPrinted (g.O.Sink.output c.args.out.now) (g.O.Sink.output c.print_row.new.out) c.print_row.new.page.items)
    (text_more c.args.figures.now c.args.limit c.loop-row.row) (c.in_ok-print_row.ensures.put _ _ c.loop-row.invariant)

pub returns-clause-added : goal.returns-clause-added
returns-clause-added g c =
    let end : c.loop-row.row ≡ c.args.rows = search (rules, arith) in
    all_rows _ _ c.args.rows c.loop-row.row _ _ _ _ _ c.put_page.result end c.loop-row.invariant
    c.put_page.ensures.put c.put_page.ensures.empty

pub returns-clause-part : goal.returns-clause-part
returns-clause-part g c =
    let end : c.loop-row.row ≡ c.args.rows = search (rules, arith) in
    rows_refused _ _ c.args.rows c.loop-row.row _ _ _ _ c.put_page.result end c.loop-row.invariant
    c.put_page.ensures.refused

pub returns-in_default-clause-part : goal.returns-in_default-clause-part
returns-in_default-clause-part g c = within_none _ _
