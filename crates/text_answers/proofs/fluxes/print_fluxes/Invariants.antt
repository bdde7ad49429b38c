use Rattle.std.proofs.Common.{◌≡◌}
use Rattle.text_answers.specs.Printing.{IsPrinted}
use Rattle.text_answers.proofs.Tracing.{trace_to}
use Rattle.text_answers.proofs.fluxes.print_fluxes.Given as goal

abbrev pub invariant-loop-time : goal.invariant-loop-time
invariant-loop-time g l = record {
  printed : IsPrinted (g.O.Sink.output l.initial.out) (g.O.Sink.output l.out) l.page.items
      (trace_to l.circuit l.words l.time);
  circuit : l.run.circuit ≡ l.circuit;
  words : l.run.words ≡ l.words;
  now : l.run.time ≡ l.time;
}
