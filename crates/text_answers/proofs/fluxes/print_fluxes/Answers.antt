use Rattle.std.proofs.Common.{◌≡◌, ◌+◌, rules, arith, ap, subst, ◌∙◌, length}
use Rattle.std.proofs.lemmas.Result.{err_from_is_err_and}
use Rattle.text_answers.specs.Counts.{delay_of}
use Rattle.text_answers.specs.FluxLines.{ticks_for}
use Rattle.text_answers.specs.Printing.{PrintsWithin, IsPrinted}
use Rattle.text_answers.proofs.Tracing.{trace_begins, trace_more_of, trace_whole, prefix_of_trace, all_traced}
use Rattle.text_answers.proofs.Tracing.{trace_refused}
use Rattle.text_answers.proofs.Pages.{within_none}
use Rattle.text_answers.proofs.fluxes.print_fluxes.Goals as goal

pub loop-time-init : goal.loop-time-init
loop-time-init g c = record {
  printed = trace_begins _ _ c.args.circuit.now c.args.words.now c.in-Ok.ensures.page;
  circuit = ap (λ r. r.circuit) c.in-Ok.ensures.run;
  words = ap (λ r. r.words) c.in-Ok.ensures.run;
  now = ap (λ r. r.time) c.in-Ok.ensures.run;
}

pub returns-in_err-print_rows-clause-part : goal.returns-in_err-print_rows-clause-part
returns-in_err-print_rows-clause-part g c =
    let p = err_from_is_err_and c.from_residual.result c.from_residual.ensures.1 in
    let ticks : c.ticks_for-time-end.result ≡ ticks_for (delay_of c.args.circuit.now)
    (length c.args.words.now) = search rules in
    let more = trace_more_of c.args.circuit.now c.args.words.now c.tick.new.self.words c.loop-time.time
    (ap (λ r. r.words) c.tick.ensures ∙ c.loop-time.invariant.words) in
    rw (p.1, p.2) (subst (λ t. PrintsWithin (g.O.Sink.output c.args.out.now)
    (g.O.Sink.output c.print_rows.new.out) t c.in_err-print_rows.field-0.0)
    (trace_whole c.args.circuit.now c.args.words.now c.ticks_for-time-end.result ticks)
    (prefix_of_trace c.args.circuit.now c.args.words.now
    (c.loop-time.time + 1) c.ticks_for-time-end.result _ _ _ (search (rules, arith))
    (subst (λ t. PrintsWithin (g.O.Sink.output c.args.out.now)
    (g.O.Sink.output c.print_rows.new.out) t c.in_err-print_rows.field-0.0) more
    (c.in_err-print_rows.ensures.refused _ _ c.loop-time.invariant.printed))))

pub loop-time-preserved : goal.loop-time-preserved
loop-time-preserved g c =
    let more = trace_more_of c.args.circuit.now c.args.words.now c.tick.new.self.words c.loop-time.time
    (ap (λ r. r.words) c.tick.ensures ∙ c.loop-time.invariant.words) in
    record {
      printed = subst (IsPrinted (g.O.Sink.output c.args.out.now)
          (g.O.Sink.output c.print_rows.new.out) c.print_rows.new.page.items) more
          (c.in_ok-print_rows.ensures.put _ _ c.loop-time.invariant.printed);
      circuit = ap (λ r. r.circuit) c.tick.ensures ∙ c.loop-time.invariant.circuit;
      words = ap (λ r. r.words) c.tick.ensures ∙ c.loop-time.invariant.words;
      now = ap (λ r. r.time) c.tick.ensures ∙ ap (λ t. t + 1) c.loop-time.invariant.now;
    }

pub returns-clause-added : goal.returns-clause-added
returns-clause-added g c =
    let ticks : c.ticks_for-time-end.result ≡ ticks_for (delay_of c.args.circuit.now)
    (length c.args.words.now) = search rules in
    let end : c.loop-time.time ≡ c.ticks_for-time-end.result = search (rules, arith) in
    all_traced _ _ _ _ _ _ _ c.loop-time.time c.put_page.result
    (end ∙ ticks) c.loop-time.invariant.printed c.put_page.ensures.put c.put_page.ensures.empty

pub returns-clause-part : goal.returns-clause-part
returns-clause-part g c =
    let ticks : c.ticks_for-time-end.result ≡ ticks_for (delay_of c.args.circuit.now)
    (length c.args.words.now) = search rules in
    let end : c.loop-time.time ≡ c.ticks_for-time-end.result = search (rules, arith) in
    trace_refused _ _ _ _ _ _ c.loop-time.time c.put_page.result
    (end ∙ ticks) c.loop-time.invariant.printed c.put_page.ensures.refused

pub returns-in_default-clause-part : goal.returns-in_default-clause-part
returns-in_default-clause-part g c = within_none _ _
