-- Whatever the order of the events of a tick, each row has its values when its time has come.
use Rattle.std.proofs.Common.{◌≡◌, ℕ, zero, suc, ◌+◌, ◌*◌, ◌/◌, ◌%◌, ◌<◌, ◌≤◌, ◌-◌, Bool, List, [], ◌∷◌, length, get_or}
use Rattle.std.proofs.Common.{Option, Some, refl, ap, subst, ◌∙◌, arith, slice_get, All, Contains}
use Rattle.std.specs.List.{AllZip, AllByRecursion}
use Rattle.std.proofs.lemmas.List.{length-replicate, length-map}
use Rattle.std.proofs.lemmas.List.Elements.{All-from_recursion, recursion_from_All}
use Rattle.rowed.specs.declared.source.Source.{Source}
use Rattle.circuit_extracted.specs.declared.cells.Feed.{Feed}
use Rattle.circuit_extracted.specs.declared.cells.Feed.TheVariants.{Pin}
use Rattle.circuit_extracted.specs.declared.cells.ExCell.{ExCell}
use Rattle.circuit_extracted.specs.Circuits.{CircuitView, IsCellAt, feed_at, IsOutputBelow, IsFeedOf, KeepsFacts}
use Rattle.circuit_extracted.specs.Answers.{IsValuation, IsAnswer}
use Rattle.pulse_sim.specs.declared.flux.Flux.{Flux}
use Rattle.pulse_sim.specs.declared.flux.Flux.TheVariants.{Off}
use Rattle.pulse_sim.specs.Fluxes.{sign, EitherSign}
use Rattle.pulse_sim.specs.Events.{Event, Happens}
use Rattle.pulse_sim.specs.Ticks.{due_from}
use Rattle.pulse_sim.specs.Runs.{IsRun, IsLegalRun}
use Rattle.pulse_sim.specs.Shows.{Shows}
use Rattle.pulse_sim.specs.Clocked.{events_of, idle_of, ShowsByClocks}
use Rattle.pulse_sim.proofs.Due.{IsDue, each_due, Happen-length, still}
use Rattle.pulse_sim.proofs.Skews.{shown}
use Rattle.pulse_sim.proofs.TickHistories.{in_turn, legal_skewed, ticks_show}
use Rattle.pulse_sim.proofs.Clocks.{shows_by_clocks}

is_among : (P : Event → Type 0) (events : List Event) (event : Event) → AllByRecursion P events
    → Contains events event → P event
is_among P events event all among = subst P among.2 (All-from_recursion P events all among.0 event among.1)

pub quiet : (circuit : CircuitView) → KeepsFacts circuit
    → (word : Option (List Bool)) (time : ℕ) (event : Event) (old new : List Flux) (c i d output : ℕ) (cell : ExCell)
    → Contains (due_from time 0 circuit.cells) event → Happens EitherSign circuit word old event new
    → IsCellAt circuit c cell → cell.phase ≡ time % 4 → feed_at cell i ≡ Pin d output
    → get_or new d Off ≡ get_or old d Off
quiet circuit ok word time event old new c i d output cell among h at phase e =
    let is = ok.cells c cell at in
    let below : IsOutputBelow circuit cell.row (record { cell = d; output = output }) =
    subst (λ (feed : Feed). IsFeedOf circuit cell.row feed) e (is.each_feed i) in
    let p : below.cell.phase ≡ below.cell.row % 4 = (ok.cells d below.cell below.cell_is).phase_is in
    let q : cell.phase ≡ cell.row % 4 = is.phase_is in
    let one : below.cell.row + 1 ≡ cell.row = below.just_below in
    let due : IsDue circuit time event = is_among (IsDue circuit time) (due_from time 0 circuit.cells) event
    (each_due circuit time) among in
    still EitherSign circuit word time event old new d below.cell due h below.cell_is
    (λ (r : below.cell.phase ≡ time % 4). omega arith) (λ (r : below.cell.phase ≡ (time + 2) % 4). omega arith)

-- ---- through a run

-- a state has a flux for each cell
pub run_length : (undecided : Flux → Type 0) (circuit : CircuitView) (words : List (List Bool)) (n : ℕ)
    (run : ℕ → List Flux) → IsRun undecided circuit words n run → (t : ℕ) → t ≤ n
    → length (run t) ≡ length circuit.cells
run_length undecided circuit words n run is zero le = ap (λ (s : List Flux). length s) is.begins
    ∙ length-replicate (length circuit.cells) Off
run_length undecided circuit words n run is (suc t) le =
    let tick = is.ticks t (omega arith) in
    Happen-length undecided circuit (slice_get words (t / 4)) tick.events (run t) (run (suc t)) tick.happen
    ∙ run_length undecided circuit words n run is t (omega arith)

module _ (circuit : CircuitView) (ok : KeepsFacts circuit) (words : List (List Bool)) (n : ℕ) (run : ℕ → List Flux)
    (legal : IsLegalRun circuit words n run)
    (k : ℕ) (word : List Bool) (is_word : slice_get words k ≡ Some word) (value : ℕ → Bool)
    (fits : IsValuation circuit word value) where
  -- after the tick of its time, a cell has the sign of its value: the run's events are those of one without
  -- ticks, in which the cell is excited for the word then
  pub held : (c : ℕ) (cell : ExCell) → IsCellAt circuit c cell → cell.row + 4 * k < n
      → get_or (run (suc (cell.row + 4 * k))) c Off ≡ sign (value c)
  held c cell at lt =
      let time = suc (cell.row + 4 * k) in
      let some = legal_skewed circuit ok words n run legal time lt in
      shown circuit ok words (idle_of circuit) k word is_word value fits (events_of some.0) (run time) some.2 c cell at
      (in_turn circuit ok words (λ t. t) 0 (λ t. omega arith) run legal.begins k c cell some.0 at some.1)

-- ---- what the circuit shows

zip_length : (R : List Bool → List Bool → Type 0) (xs ys : List (List Bool)) → AllZip R xs ys → length ys ≡ length xs
zip_length R [] [] all = refl
zip_length R [] (z ∷ ys) all = absurd all
zip_length R (x ∷ xs) [] all = absurd all
zip_length R (x ∷ xs) (z ∷ ys) all = ap suc (zip_length R xs ys all.1)

each_wide : (circuit : CircuitView) (words answers : List (List Bool)) → AllZip (IsAnswer circuit) words answers
    → AllByRecursion (λ answer. length answer ≡ length circuit.outputs) answers
each_wide circuit [] [] all = tt
each_wide circuit [] (answer ∷ answers) all = absurd all
each_wide circuit (word ∷ words) [] all = absurd all
each_wide circuit (word ∷ words) (answer ∷ answers) all = (
  ap (λ (bits : List Bool). length bits) all.0.answer_is
      ∙ length-map circuit.outputs
      (λ (source : Source). all.0.value source.cell),
  each_wide circuit words answers all.1,
)

-- what every clock shows, every run by ticks shows: the rest is said of each circuit
pub enough : (circuit : CircuitView) (words answers : List (List Bool)) → KeepsFacts circuit
    → length answers ≡ length words → All (λ word. length word ≡ circuit.inputs) words
    → All (λ answer. length answer ≡ length circuit.outputs) answers
    → ShowsByClocks circuit (circuit.rows - 1) words answers → Shows circuit (circuit.rows - 1) words answers
enough circuit words answers ok as_many words_wide wide by_clocks = record {
  as_many = as_many;
  words_wide = words_wide;
  answers_wide = wide;
  in_phase = λ k source is.
      let below = ok.outputs k source is in
      let p : below.cell.phase ≡ below.cell.row % 4 = (ok.cells source.cell below.cell below.cell_is).phase_is in
      let e : below.cell.row ≡ circuit.rows - 1 = omega (arith, below.just_below) in
      record { cell = below.cell; cell_is = below.cell_is; phase_is = p ∙ ap (λ (r : ℕ). r % 4) e };
  shown = ticks_show circuit (circuit.rows - 1) words answers ok
      (recursion_from_All (λ answer. length answer ≡ length circuit.outputs) answers wide) by_clocks;
}

pub shows : (circuit : CircuitView) (words answers : List (List Bool)) → KeepsFacts circuit
    → All (λ word. length word ≡ circuit.inputs) words → AllZip (IsAnswer circuit) words answers
    → Shows circuit (circuit.rows - 1) words answers
shows circuit words answers ok wide all =
    enough circuit words answers ok (zip_length (IsAnswer circuit) words answers all) wide
    (All-from_recursion (λ answer. length answer ≡ length circuit.outputs) answers
    (each_wide circuit words answers all)) (shows_by_clocks circuit words answers ok all)
