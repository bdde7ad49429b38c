use Rattle.std.proofs.Common.{◌≡◌, ◌≤◌, ◌-◌, length, drop}
use Rattle.std.specs.Str.Lines.{lines}
use Rattle.text_answers.specs.WordLines.{answers_text, first_answers}
use Rattle.text_answers.specs.Printing.{IsPrinted}
use Rattle.text_answers.proofs.answers.print_answers.Given as goal

abbrev pub invariant-loop-done : goal.invariant-loop-done
invariant-loop-done g l = record {
  printed : IsPrinted (g.O.Sink.output l.initial.out) (g.O.Sink.output l.out) l.page.items
      (answers_text l.circuit (first_answers l.circuit l.words l.done));
  to_come : lines l.rest ≡ drop l.done (lines l.initial.rest);
  long : length l.lanes.words.items ≡ l.circuit.inputs;
  within : l.done ≤ length l.words;
}

abbrev pub decreases-loop-done : goal.decreases-loop-done
decreases-loop-done g l = length l.words - l.done
