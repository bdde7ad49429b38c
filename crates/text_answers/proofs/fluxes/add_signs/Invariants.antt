use Rattle.std.proofs.Common.{◌≡◌, ◌++◌, ◌-◌, ◌≤◌, length, map, take, drop}
use Rattle.pulse_sim.specs.Settled.{settled_run}
use Rattle.text_answers.specs.FluxLines.{sign_of}
use Rattle.text_answers.proofs.Tracing.{AreInRow}
use Rattle.text_answers.proofs.fluxes.add_signs.Given as goal

abbrev pub invariant-loop-page : goal.invariant-loop-page
invariant-loop-page l = record {
  later : l.first ≤ l.next;
  within : l.next ≤ length l.cells;
  in_row : AreInRow l.cells l.row l.first l.next;
  signs : l.page.items ≡ l.initial.page.items ++ map sign_of
      (take (l.next - l.first) (drop l.first (settled_run l.run.circuit l.run.words l.run.time)));
}

abbrev pub decreases-loop-page : goal.decreases-loop-page
decreases-loop-page l = length l.cells - l.next
