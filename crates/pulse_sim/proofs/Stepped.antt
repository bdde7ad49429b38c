-- The states of a simulation after its steps make a legal run.
use Rattle.std.proofs.Common.{◌≡◌, ℕ, zero, suc, ◌+◌, ◌<◌, Bool, List, [], ◌∷◌, length, get_or, Option, Some, None}
use Rattle.std.proofs.Common.{refl, sym, ap, subst, ◌∙◌, arith, slice_get, take}
use Rattle.std.proofs.lemmas.List.{length-replicate}
use Rattle.std.proofs.lemmas.Option.{slice_get-get_or}
use Rattle.circuit_extracted.specs.Circuits.{CircuitView, KeepsFacts}
use Rattle.pulse_sim.specs.declared.flux.Flux.{Flux}
use Rattle.pulse_sim.specs.declared.flux.Flux.TheVariants.{Off}
use Rattle.pulse_sim.specs.Fluxes.{EitherSign}
use Rattle.pulse_sim.specs.Ticks.{Ticks}
use Rattle.pulse_sim.specs.Runs.{IsLegalRun}
use Rattle.pulse_sim.specs.Pulsing.{Pulsing}
use Rattle.pulse_sim.specs.Settled.{settled_tick}
use Rattle.pulse_sim.specs.Stepping.{begun, stepped, after_steps, state_after, AreGiven}
use Rattle.pulse_sim.proofs.Settling.{lawful, exists, next_fluxes-length}

-- one more step
step_more : (s : Pulsing) (steps : List (Option (List Bool))) (t : ℕ) (word : Option (List Bool))
    → slice_get steps t ≡ Some word
    → after_steps s (take (suc t) steps) ≡ stepped (after_steps s (take t steps)) word
step_more s [] t word e = absurd cc
step_more s (x ∷ steps) zero word e = ap (stepped s) (let k : x ≡ word = cc in k)
step_more s (x ∷ steps) (suc t) word e = step_more (stepped s x) steps t word e

same_circuit : (s : Pulsing) (steps : List (Option (List Bool))) → (after_steps s steps).circuit ≡ s.circuit
same_circuit s [] = refl
same_circuit s (x ∷ steps) = same_circuit (stepped s x) steps

time_after : (s : Pulsing) (steps : List (Option (List Bool))) (t : ℕ) → t < suc (length steps)
    → (after_steps s (take t steps)).time ≡ s.time + t
time_after s steps zero le = omega arith
time_after s [] (suc t) le = absurd (omega arith)
time_after s (x ∷ steps) (suc t) le = time_after (stepped s x) steps t (omega arith) ∙ omega arith

each_flux : (s : Pulsing) (steps : List (Option (List Bool))) → length s.fluxes ≡ length s.circuit.cells
    → length (after_steps s steps).fluxes ≡ length s.circuit.cells
each_flux s [] long = long
each_flux s (x ∷ steps) long =
    each_flux (stepped s x) steps (next_fluxes-length x s.time s.fluxes s.circuit.cells s.fluxes long)

module _ (circuit : CircuitView) (keeps : KeepsFacts circuit) (steps : List (Option (List Bool))) where
  next_state : (t : ℕ) (word : Option (List Bool)) → slice_get steps t ≡ Some word → t < length steps
      → state_after circuit steps (suc t) ≡ settled_tick circuit word t (state_after circuit steps t)
  next_state t word e lt =
      let before = after_steps (begun circuit) (take t steps) in
      ap (λ (s : Pulsing). s.fluxes) (step_more (begun circuit) steps t word e)
      ∙ ap (λ (c : CircuitView). settled_tick c word before.time before.fluxes)
      (same_circuit (begun circuit) (take t steps))
      ∙ ap (λ (n : ℕ). settled_tick circuit word n before.fluxes) (time_after (begun circuit) steps t (omega arith)
      ∙ omega arith)

  long_state : (t : ℕ) → length (state_after circuit steps t) ≡ length circuit.cells
  long_state t = each_flux (begun circuit) (take t steps) (length-replicate (length circuit.cells) Off)

  -- each step is a tick of the machine
  pub step_ticks : (t : ℕ) (word : Option (List Bool)) → slice_get steps t ≡ Some word → t < length steps
      → Ticks EitherSign circuit word t (state_after circuit steps t) (state_after circuit steps (suc t))
  step_ticks t word e lt =
      subst (λ (new : List Flux). Ticks EitherSign circuit word t (state_after circuit steps t) new)
      (sym (next_state t word e lt))
      (lawful circuit word t _ _ (exists circuit keeps word t (state_after circuit steps t) (long_state t)))

  pub steps_run : (words : List (List Bool)) → AreGiven words steps → IsLegalRun circuit words (length steps)
      (state_after circuit steps)
  steps_run words given = record {
    begins = refl;
    ticks = λ t lt.
        let word = get_or steps t None in
        let there : slice_get steps t ≡ Some word = slice_get-get_or steps t None lt in
        subst (λ (w : Option (List Bool)). Ticks EitherSign circuit w t (state_after circuit steps t)
        (state_after circuit steps (suc t))) (given t word there) (step_ticks t word there lt);
  }
