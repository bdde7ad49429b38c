use Rattle.std.proofs.Common.{◌≡◌, ◌++◌, ◌+◌}
use Rattle.pulse_sim.specs.Settled.{settled_run}
use Rattle.text_answers.specs.FluxLines.{row_lines}
use Rattle.text_answers.specs.RowStarts.{IsRowStart}
use Rattle.text_answers.proofs.fluxes.add_rows.Given as goal

abbrev pub invariant-loop-row : goal.invariant-loop-row
invariant-loop-row l = record {
  lines : l.page.items ≡ l.initial.page.items ++ row_lines l.circuit l.time
      (settled_run l.circuit l.run.words (l.time + 1)) l.row;
  start : IsRowStart l.circuit.cells l.row l.first;
}
