use Rattle.std.proofs.Common.{◌≡◌, ◌∙◌, ◌+◌, ◌%◌, arith, ap}
use Rattle.circuit_extracted.specs.Circuits.{CircuitView}
use Rattle.pulse_sim.specs.Pulsing.{AreInPhase}
use Rattle.pulse_sim.proofs.InPlace.{at_phase, phase_within, phase_quiet, ticked}
use Rattle.pulse_sim.proofs.ticks.settle.Goals as goal

pub switch_all-requires : goal.switch_all-requires
switch_all-requires c =
    let cells : c.as_slice.result.now ≡ c.args.circuit.now.cells = c.as_slice.ensures
    ∙ ap (λ (x : CircuitView). x.cells) c.circuit.view_is in
    let are : AreInPhase c.args.circuit.now.cells (c.args.time % 4) c.index-phases-time.result =
    at_phase _ _ _ _ c.requires.by_phase (omega arith) c.index-phases-time.is in
    rw (cells, c.as_slice-2.ensures) (record {
      within = phase_within _ _ _ are;
      long = c.requires.each_flux;
      quiet = phase_quiet _ c.known.ensures _ _ are;
    })

pub relax_all-requires : goal.relax_all-requires
relax_all-requires c =
    let are : AreInPhase c.args.circuit.now.cells ((c.args.time + 2) % 4) c.index-phases-time-2.result =
    at_phase _ _ _ _ c.requires.by_phase (omega arith) c.index-phases-time-2.is in
    rw (c.as_slice-3.ensures, c.switch_all.ensures.long, c.requires.each_flux) (phase_within _ _ _ are)

pub returns : goal.returns
returns c =
    let cells : c.as_slice.result.now ≡ c.args.circuit.now.cells = c.as_slice.ensures
    ∙ ap (λ (x : CircuitView). x.cells) c.circuit.view_is in
    let up : AreInPhase c.args.circuit.now.cells (c.args.time % 4) c.as_slice-2.result.now = rw c.as_slice-2.ensures
    (at_phase _ _ _ _ c.requires.by_phase (omega arith) c.index-phases-time.is) in
    let down : AreInPhase c.args.circuit.now.cells ((c.args.time + 2) % 4) c.as_slice-3.result.now =
    rw c.as_slice-3.ensures (at_phase _ _ _ _ c.requires.by_phase (omega arith) c.index-phases-time-2.is) in
    ticked c.args.circuit.now _ _ _ _ _ _ _ c.requires.each_flux up down
    (rw cells at c.switch_all.ensures) c.relax_all.ensures
