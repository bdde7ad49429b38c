-- The settled tick: it can happen, it is a tick of the machine, and it gives one state whatever the order of its
-- events.
use Rattle.std.proofs.Common.{◌≡◌, ◌≢◌, ℕ, zero, suc, ◌+◌, ◌/◌, ◌%◌, ◌<◌, ◌≤◌, Bool, true, false, eqb, inl, inr, List}
use Rattle.std.proofs.Common.{[], ◌∷◌, length, get_or, set, Option, Some, None, refl, sym, ap, subst, ◌∙◌, arith}
use Rattle.std.proofs.Common.{slice_get, ℤ, pos, negsuc, neg_ℤ, ◌+ℤ◌, ◌==◌}
use Rattle.std.specs.List.{AllByRecursion}
use Rattle.std.proofs.lemmas.List.{get_or-set_same, length-replicate, ext_get_or}
use Rattle.std.proofs.lemmas.List.Sorted.{IsPermutation-refl}
use Rattle.std.proofs.lemmas.Option.{slice_get_within, same_Some}
use Rattle.std.proofs.lemmas.Bool.{eqb-true}
use Rattle.std.proofs.lemmas.Bool.Decides.{nat_tests}
use Rattle.circuit.specs.declared.cell_kind.CellKind.{CellKind}
use Rattle.circuit.specs.declared.cell_kind.CellKind.TheVariants.{Buffer, Inverter, Zero, One, Split2, Split3, Majority}
use Rattle.circuit_extracted.specs.declared.cells.Feed.{Feed}
use Rattle.circuit_extracted.specs.declared.cells.Feed.TheVariants.{Nothing, Pin, Label}
use Rattle.circuit_extracted.specs.declared.cells.ExCell.{ExCell}
use Rattle.circuit_extracted.specs.Circuits.{CircuitView, IsCellAt, IsFeedOf, KeepsFacts}
use Rattle.pulse_sim.specs.declared.flux.Flux.{Flux}
use Rattle.pulse_sim.specs.declared.flux.Flux.TheVariants.{Off}
use Rattle.pulse_sim.specs.Fluxes.{amount, EitherSign, MinusAlone, IsSignOf, MayTake}
use Rattle.pulse_sim.specs.Events.{Event, Switch, Relax, IsInputFlux, IsFeedFlux, Switches, Happens, Happen}
use Rattle.pulse_sim.specs.Ticks.{due_from, Ticks}
use Rattle.pulse_sim.specs.Runs.{IsRun}
use Rattle.pulse_sim.specs.Settled.{settled_sign, settled_take, input_flux, feed_flux, feed_sum, next_flux, next_fluxes}
use Rattle.pulse_sim.specs.Settled.{settled_tick, settled_run}
use Rattle.pulse_sim.proofs.Due.{cell_of, IsDue, each_due, tick_due, comes, Happen-length, still, due_phase, ends_with}
use Rattle.pulse_sim.proofs.EveryOrder.{run_length}

-- ---- a settled tick is a tick

either_sign : (z : ℤ) (flux : Flux) → IsSignOf MinusAlone z flux → IsSignOf EitherSign z flux
either_sign (pos zero) flux h = inr h
either_sign (pos (suc n)) flux h = h
either_sign (negsuc n) flux h = h

either_take : (kind : CellKind) (z : ℤ) (flux : Flux) → MayTake MinusAlone kind z flux → MayTake EitherSign kind z flux
either_take Buffer z flux h = either_sign z flux h
either_take Inverter z flux h = either_sign (neg_ℤ z) flux h
either_take Zero z flux h = h
either_take One z flux h = h
either_take Split2 z flux h = either_sign z flux h
either_take Split3 z flux h = either_sign z flux h
either_take Majority z flux h = either_sign z flux h

either_input : (word : Option (List Bool)) (n : ℕ) (flux : Flux) → IsInputFlux MinusAlone word n flux
    → IsInputFlux EitherSign word n flux
either_input None n flux h = inr h
either_input (Some word) n flux h = h

either_feed : (word : Option (List Bool)) (state : List Flux) (feed : Feed) (flux : Flux)
    → IsFeedFlux MinusAlone word state feed flux → IsFeedFlux EitherSign word state feed flux
either_feed word state Nothing flux h = h
either_feed word state (Pin cell output) flux h = h
either_feed word state (Label n) flux h = either_input word n flux h

pub either_happens : (circuit : CircuitView) (word : Option (List Bool)) (event : Event) (old new : List Flux)
    → Happens MinusAlone circuit word old event new → Happens EitherSign circuit word old event new
either_happens circuit word (Relax c) old new h = h
either_happens circuit word (Switch c) old new h = record {
  cell = h.cell;
  cell_is = h.cell_is;
  flux0 = h.flux0;
  flux1 = h.flux1;
  flux2 = h.flux2;
  feed0 = either_feed word old h.cell.feed0 h.flux0 h.feed0;
  feed1 = either_feed word old h.cell.feed1 h.flux1 h.feed1;
  feed2 = either_feed word old h.cell.feed2 h.flux2 h.feed2;
  taken = h.taken;
  may_take = either_take h.cell.kind (amount h.flux0 +ℤ amount h.flux1 +ℤ amount h.flux2) h.taken h.may_take;
  new_is = h.new_is;
}

either_happen : (circuit : CircuitView) (word : Option (List Bool)) (events : List Event) (old new : List Flux)
    → Happen MinusAlone circuit word old events new → Happen EitherSign circuit word old events new
either_happen circuit word [] old new h = h
either_happen circuit word (event ∷ events) old new h =
    (h.0, either_happens circuit word event old h.0 h.1, either_happen circuit word events h.0 new h.2)

pub lawful : (circuit : CircuitView) (word : Option (List Bool)) (time : ℕ) (old new : List Flux)
    → Ticks MinusAlone circuit word time old new → Ticks EitherSign circuit word time old new
lawful circuit word time old new tick =
    record { events = tick.events; due = tick.due; happen = either_happen circuit word tick.events old new tick.happen }

-- ---- what settles is what is computed

sign_is : (z : ℤ) (flux : Flux) → IsSignOf MinusAlone z flux → flux ≡ settled_sign z
sign_is (pos zero) flux h = h
sign_is (pos (suc n)) flux h = h
sign_is (negsuc n) flux h = h

take_is : (kind : CellKind) (z : ℤ) (flux : Flux) → MayTake MinusAlone kind z flux → flux ≡ settled_take kind z
take_is Buffer z flux h = sign_is z flux h
take_is Inverter z flux h = sign_is (neg_ℤ z) flux h
take_is Zero z flux h = h
take_is One z flux h = h
take_is Split2 z flux h = sign_is z flux h
take_is Split3 z flux h = sign_is z flux h
take_is Majority z flux h = sign_is z flux h

input_is : (word : Option (List Bool)) (n : ℕ) (flux : Flux) → IsInputFlux MinusAlone word n flux
    → flux ≡ input_flux word n
input_is None n flux h = h
input_is (Some word) n flux h = h

feed_is : (word : Option (List Bool)) (state : List Flux) (feed : Feed) (flux : Flux)
    → IsFeedFlux MinusAlone word state feed flux → flux ≡ feed_flux word state feed
feed_is word state Nothing flux h = h
feed_is word state (Pin cell output) flux h = h
feed_is word state (Label n) flux h = input_is word n flux h

may_sign : (z : ℤ) → IsSignOf MinusAlone z (settled_sign z)
may_sign (pos zero) = refl
may_sign (pos (suc n)) = refl
may_sign (negsuc n) = refl

may_take_it : (kind : CellKind) (z : ℤ) → MayTake MinusAlone kind z (settled_take kind z)
may_take_it Buffer z = may_sign z
may_take_it Inverter z = may_sign (neg_ℤ z)
may_take_it Zero z = refl
may_take_it One z = refl
may_take_it Split2 z = may_sign z
may_take_it Split3 z = may_sign z
may_take_it Majority z = may_sign z

may_input : (word : Option (List Bool)) (n : ℕ) → IsInputFlux MinusAlone word n (input_flux word n)
may_input None n = refl
may_input (Some word) n = refl

may_feed : (word : Option (List Bool)) (state : List Flux) (feed : Feed)
    → IsFeedFlux MinusAlone word state feed (feed_flux word state feed)
may_feed word state Nothing = refl
may_feed word state (Pin cell output) = refl
may_feed word state (Label n) = may_input word n

-- ---- a settled tick can happen

pub can_happens : (circuit : CircuitView) (word : Option (List Bool)) (time : ℕ) (event : Event) (old : List Flux)
    → IsDue circuit time event → (new : List Flux) × Happens MinusAlone circuit word old event new
can_happens circuit word time (Relax c) old due = (set old c Off, refl)
can_happens circuit word time (Switch c) old due =
    let cell : ExCell = due.cell in
    let taken : Flux = settled_take due.cell.kind (feed_sum word old due.cell) in (
      set old c taken,
      record {
        cell = due.cell;
        cell_is = due.cell_is;
        flux0 = feed_flux word old due.cell.feed0;
        flux1 = feed_flux word old due.cell.feed1;
        flux2 = feed_flux word old due.cell.feed2;
        feed0 = may_feed word old due.cell.feed0;
        feed1 = may_feed word old due.cell.feed1;
        feed2 = may_feed word old due.cell.feed2;
        taken = taken;
        may_take = may_take_it due.cell.kind (feed_sum word old due.cell);
        new_is = refl;
      },
    )

can_happen : (circuit : CircuitView) (word : Option (List Bool)) (time : ℕ) (events : List Event) (old : List Flux)
    → AllByRecursion (IsDue circuit time) events → (new : List Flux) × Happen MinusAlone circuit word old events new
can_happen circuit word time [] old due = (old, refl)
can_happen circuit word time (event ∷ events) old due =
    let first = can_happens circuit word time event old due.0 in
    let rest = can_happen circuit word time events first.0 due.1 in
    (rest.0, (first.0, first.1, rest.1))

-- in the order of the cells
some_tick : (circuit : CircuitView) (word : Option (List Bool)) (time : ℕ) (old : List Flux) → (new : List Flux)
    × Ticks MinusAlone circuit word time old new
some_tick circuit word time old =
    let h = can_happen circuit word time (due_from time 0 circuit.cells) old (each_due circuit time) in (
      h.0,
      record {
        events = due_from time 0 circuit.cells;
        due = IsPermutation-refl (due_from time 0 circuit.cells);
        happen = h.1;
      },
    )

-- ---- and gives one state

pub next_fluxes-length : (word : Option (List Bool)) (time : ℕ) (state : List Flux) (cells : List ExCell)
    (fluxes : List Flux) → length fluxes ≡ length cells
    → length (next_fluxes word time state cells fluxes) ≡ length cells
next_fluxes-length word time state [] fluxes e = refl
next_fluxes-length word time state (cell ∷ cells) [] e = absurd cc
next_fluxes-length word time state (cell ∷ cells) (flux ∷ fluxes) e =
    ap suc (next_fluxes-length word time state cells fluxes (omega arith))

pub next_fluxes-at : (word : Option (List Bool)) (time : ℕ) (state : List Flux) (cells : List ExCell)
    (fluxes : List Flux) (c : ℕ) (cell : ExCell) → length fluxes ≡ length cells → slice_get cells c ≡ Some cell
    → get_or (next_fluxes word time state cells fluxes) c Off ≡ next_flux word time state cell (get_or fluxes c Off)
next_fluxes-at word time state [] fluxes c cell e is = absurd cc
next_fluxes-at word time state (x ∷ cells) [] c cell e is = absurd cc
next_fluxes-at word time state (x ∷ cells) (flux ∷ fluxes) zero cell e is =
    ap (λ (y : ExCell). next_flux word time state y flux) (same_Some x cell is)
next_fluxes-at word time state (x ∷ cells) (flux ∷ fluxes) (suc c) cell e is =
    next_fluxes-at word time state cells fluxes c cell (omega arith) is

pub cell_at : (cells : List ExCell) (c : ℕ) → c < length cells → (cell : ExCell) × (slice_get cells c ≡ Some cell)
cell_at [] c lt = absurd (omega arith)
cell_at (cell ∷ cells) zero lt = (cell, refl)
cell_at (cell ∷ cells) (suc c) lt = cell_at cells c (omega arith)

module _ (circuit : CircuitView) (ok : KeepsFacts circuit) (word : Option (List Bool))
    (time : ℕ) (old : List Flux) where
  -- what neither switches nor relaxes is as before the tick
  abbrev Unchanged : List Flux → Type 0
  Unchanged state = (d : ℕ) (cell : ExCell) → IsCellAt circuit d cell → cell.phase ≢ time % 4
      → cell.phase ≢ (time + 2) % 4 → get_or state d Off ≡ get_or old d Off

  kept : (event : Event) (before after : List Flux) → IsDue circuit time event
      → Happens MinusAlone circuit word before event after → Unchanged before → Unchanged after
  kept event before after due h unchanged d cell is p q =
      still MinusAlone circuit word time event before after d cell due h is p q ∙ unchanged d cell is p q

  -- the feeds of a cell that switches show what they showed before the tick
  same_feed : (state : List Flux) → Unchanged state → (row : ℕ) → row % 4 ≡ time % 4 → (feed : Feed)
      → IsFeedOf circuit row feed → feed_flux word state feed ≡ feed_flux word old feed
  same_feed state unchanged row phase Nothing is = refl
  same_feed state unchanged row phase (Label n) is = refl
  same_feed state unchanged row phase (Pin d output) is =
      let p : is.cell.phase ≡ is.cell.row % 4 = (ok.cells d is.cell is.cell_is).phase_is in
      let below : is.cell.row + 1 ≡ row = is.just_below in
      unchanged d is.cell is.cell_is (λ (q : is.cell.phase ≡ time % 4). omega arith)
      (λ (q : is.cell.phase ≡ (time + 2) % 4). omega arith)

  -- a cell that switches takes what is computed from the state before the tick
  switched : (state new : List Flux) (c : ℕ) (cell : ExCell) → IsCellAt circuit c cell → cell.phase ≡ time % 4
      → Unchanged state → c < length state
      → Switches MinusAlone circuit word state c new
      → get_or new c Off ≡ settled_take cell.kind (feed_sum word old cell)
  switched state new c cell at phase unchanged lt s =
      let same : s.cell ≡ cell = same_Some s.cell cell (sym s.cell_is ∙ at) in
      let is = ok.cells c cell at in
      let row : cell.row % 4 ≡ time % 4 = sym is.phase_is ∙ phase in
      let sum : amount s.flux0 +ℤ amount s.flux1 +ℤ amount s.flux2 ≡ feed_sum word state s.cell =
      rw (
        feed_is word state s.cell.feed0 s.flux0 s.feed0,
        feed_is word state s.cell.feed1 s.flux1 s.feed1,
        feed_is word
            state s.cell.feed2 s.flux2 s.feed2,
      ) refl in
      let sum_old : feed_sum word state cell ≡ feed_sum word old cell =
      rw (
        same_feed state unchanged cell.row row cell.feed0
            (is.each_feed 0),
        same_feed state unchanged cell.row row cell.feed1
            (is.each_feed 1),
        same_feed state unchanged cell.row row cell.feed2 (is.each_feed 2),
      ) refl in
      ap (λ (x : List Flux). get_or x c Off) s.new_is ∙ get_or-set_same state c s.taken Off lt
      ∙ take_is s.cell.kind (amount s.flux0 +ℤ amount s.flux1 +ℤ amount s.flux2) s.taken s.may_take
      ∙ ap (settled_take s.cell.kind) sum
      ∙ ap (λ (x : ExCell). settled_take x.kind (feed_sum word state x)) same
      ∙ ap (settled_take cell.kind) sum_old

  gives_switched : (c : ℕ) (cell : ExCell) → IsCellAt circuit c cell → cell.phase ≡ time % 4
      → (event : Event) (before after : List Flux) → IsDue circuit time event → cell_of event ≡ c
      → Happens MinusAlone circuit word before event after → Unchanged before → c < length before
      → get_or after c Off ≡ settled_take cell.kind (feed_sum word old cell)
  gives_switched c cell at phase (Switch d) before after due e h unchanged lt =
      switched before after c cell at phase unchanged lt
      (subst (λ (n : ℕ). Switches MinusAlone circuit word before n after) e h)
  gives_switched c cell at phase (Relax d) before after due e h unchanged lt =
      let p : cell.phase ≡ (time + 2) % 4 = due_phase circuit ((time + 2) % 4) d cell due
      (subst (λ (n : ℕ). IsCellAt circuit n cell) (sym e) at) in
      absurd (omega arith)

  gives_relaxed : (c : ℕ) (cell : ExCell) → IsCellAt circuit c cell → cell.phase ≡ (time + 2) % 4
      → (event : Event) (before after : List Flux) → IsDue circuit time event → cell_of event ≡ c
      → Happens MinusAlone circuit word before event after → Unchanged before → c < length before
      → get_or after c Off ≡ Off
  gives_relaxed c cell at phase (Relax d) before after due e h unchanged lt =
      ap (λ (s : List Flux). get_or s c Off) h ∙ ap (λ (n : ℕ). get_or (set before n Off) c Off) e
      ∙ get_or-set_same before c Off Off lt
  gives_relaxed c cell at phase (Switch d) before after due e h unchanged lt =
      let p : cell.phase ≡ time % 4 = due_phase circuit (time % 4) d cell due
      (subst (λ (n : ℕ). IsCellAt circuit n cell) (sym e) at) in
      absurd (omega arith)

  all_still : (c : ℕ) (cell : ExCell) → IsCellAt circuit c cell → cell.phase ≢ time % 4 → cell.phase ≢ (time + 2) % 4
      → (events : List Event) (before after : List Flux)
      → AllByRecursion (IsDue circuit time) events → Happen MinusAlone circuit word before events after
      → get_or after c Off ≡ get_or before c Off
  all_still c cell at p q [] before after due h = ap (λ (s : List Flux). get_or s c Off) h
  all_still c cell at p q (event ∷ events) before after due h =
      all_still c cell at p q events h.0 after due.1 h.2
      ∙ still MinusAlone circuit word time event before h.0 c cell due.0 h.1 at p q

  module _ (long : length old ≡ length circuit.cells) (new : List Flux)
      (tick : Ticks MinusAlone circuit word time old new) where
    -- the flux of each cell, by how its two tests go
    flux_is : (c : ℕ) (cell : ExCell) → IsCellAt circuit c cell → (a b : Bool) → (cell.phase == time % 4) ≡ a
        → (cell.phase == (time + 2) % 4) ≡ b
        → get_or new c Off ≡ elim a as (λ (x : Bool). Flux) [
          | true ↦ settled_take cell.kind
              (feed_sum word old cell)
          | false ↦ elim b as (λ (x : Bool). Flux)
              [ true ↦ Off | false ↦ get_or old c Off ]
        ]
    flux_is c cell at true b p q =
        let phase : cell.phase ≡ time % 4 = eqb-true cell.phase (time % 4) p in
        let lt : c < length old = omega (arith, slice_get_within circuit.cells c cell at) in
        ends_with MinusAlone circuit word time c (settled_take cell.kind (feed_sum word old cell)) Unchanged kept
        (gives_switched c cell at phase)
        tick.events old new (tick_due circuit time tick.events tick.due) tick.happen (λ d x is r s. refl) lt
        (inl (comes circuit time tick.events c cell tick.due at (inl phase)))
    flux_is c cell at false true p q =
        let phase : cell.phase ≡ (time + 2) % 4 = eqb-true cell.phase ((time + 2) % 4) q in
        let lt : c < length old = omega (arith, slice_get_within circuit.cells c cell at) in
        ends_with MinusAlone circuit word time c Off Unchanged kept (gives_relaxed c cell at phase)
        tick.events old new (tick_due circuit time tick.events tick.due) tick.happen (λ d x is r s. refl) lt
        (inl (comes circuit time tick.events c cell tick.due at (inr phase)))
    flux_is c cell at false false p q =
        let other : cell.phase ≢ time % 4 =
        λ e. (let k : eqb cell.phase (time % 4) ≡ true = grind (arith, nat_tests) in absurd cc) in
        let another : cell.phase ≢ (time + 2) % 4 =
        λ e. (let k : eqb cell.phase ((time + 2) % 4) ≡ true = grind (arith, nat_tests) in absurd cc) in
        all_still c cell at other another tick.events old new (tick_due circuit time tick.events tick.due) tick.happen

    pub one_state : new ≡ settled_tick circuit word time old
    one_state =
        ext_get_or Off new (settled_tick circuit word time old)
        (Happen-length MinusAlone circuit word tick.events old new tick.happen ∙ long
        ∙ sym (next_fluxes-length word time old circuit.cells old long))
        (λ c lt.
        let cell = cell_at circuit.cells c
        (omega (arith, Happen-length MinusAlone circuit word tick.events old new tick.happen)) in
        flux_is c cell.0 cell.1 _ _ refl refl
        ∙ sym (next_fluxes-at word time old circuit.cells old c cell.0 long cell.1))

  -- the settled tick
  pub exists : length old ≡ length circuit.cells
      → Ticks MinusAlone circuit word time old (settled_tick circuit word time old)
  exists long =
      let some = some_tick circuit word time old in
      subst (λ (state : List Flux). Ticks MinusAlone circuit word time old state) (one_state long some.0 some.1) some.1

-- ---- runs

module _ (circuit : CircuitView) (ok : KeepsFacts circuit) (words : List (List Bool)) where
  settled_run-length : (t : ℕ) → length (settled_run circuit words t) ≡ length circuit.cells
  settled_run-length zero = length-replicate (length circuit.cells) Off
  settled_run-length (suc t) = next_fluxes-length (slice_get words (t / 4)) t
      (settled_run circuit words t) circuit.cells (settled_run circuit words t) (settled_run-length t)

  pub settled : (n : ℕ) → IsRun MinusAlone circuit words n (settled_run circuit words)
  settled n = record {
    begins = refl;
    ticks = λ t lt. exists circuit ok (slice_get words (t / 4)) t (settled_run circuit words t) (settled_run-length t);
  }

  pub legal : (n : ℕ) → IsRun EitherSign circuit words n (settled_run circuit words)
  legal n = record {
    begins = refl;
    ticks = λ t lt. lawful circuit (slice_get words (t / 4)) t (settled_run circuit words t)
        (settled_run circuit words (suc t)) ((settled n).ticks t lt);
  }

  pub only : (n : ℕ) (run : ℕ → List Flux) → IsRun MinusAlone circuit words n run → (t : ℕ) → t ≤ n
      → run t ≡ settled_run circuit words t
  only n run is zero le = is.begins
  only n run is (suc t) le =
      one_state circuit ok (slice_get words (t / 4)) t (run t)
      (run_length MinusAlone circuit words n run is t (omega arith)) (run (suc t)) (is.ticks t (omega arith))
      ∙ ap (settled_tick circuit (slice_get words (t / 4)) t) (only n run is t (omega arith))
