-- The events of a tick: which cells they are due at, what they change, and what holds once a cell's event has come.
use Rattle.std.proofs.Common.{◌≡◌, ◌≢◌, ℕ, zero, suc, ◌+◌, ◌%◌, ◌<◌, ◌≤◌, Bool, true, false, cond, eqb, ◌⊎◌, inl, inr}
use Rattle.std.proofs.Common.{List, [], ◌∷◌, ◌++◌, add-zero, length, get_or, Option, Some, refl, sym, ap, subst, ◌∙◌}
use Rattle.std.proofs.Common.{arith, slice_get, count_by, ◌==◌}
use Rattle.std.specs.List.{AllByRecursion}
use Rattle.std.specs.List.Sorted.{IsPermutation}
use Rattle.std.proofs.lemmas.List.{get_or-set_other, length-set}
use Rattle.std.proofs.lemmas.List.Sums.{sum_by-cons}
use Rattle.std.proofs.lemmas.List.Sorted.{All-permutation, sum_by-IsPermutation}
use Rattle.std.proofs.lemmas.List.Elements.{recursion_from_All, All-from_recursion}
use Rattle.std.proofs.lemmas.Option.{same_Some}
use Rattle.std.proofs.lemmas.Bool.{eqb-true, cases_eq}
use Rattle.std.proofs.lemmas.Bool.Decides.{nat_tests}
use Rattle.circuit_extracted.specs.declared.cells.ExCell.{ExCell}
use Rattle.circuit_extracted.specs.Circuits.{CircuitView, IsCellAt}
use Rattle.pulse_sim.specs.declared.flux.Flux.{Flux}
use Rattle.pulse_sim.specs.declared.flux.Flux.TheVariants.{Off}
use Rattle.pulse_sim.specs.Events.{Event, Switch, Relax, Happens, Happen}
use Rattle.pulse_sim.specs.Ticks.{due_of, due_from}

abbrev pub cell_of : Event → ℕ
cell_of (Switch c) = c
cell_of (Relax c) = c

-- ---- which events a tick has

-- the cell of this number is there and has the phase
pub record StandsIn (circuit : CircuitView) (phase c : ℕ) : Type 0 where
  pub cell : ExCell
  pub cell_is : IsCellAt circuit c cell
  pub phase_is : cell.phase ≡ phase

abbrev pub IsDue : CircuitView → ℕ → Event → Type 0
IsDue circuit time (Switch c) = StandsIn circuit (time % 4) c
IsDue circuit time (Relax c) = StandsIn circuit ((time + 2) % 4) c

is_due_of : (circuit : CircuitView) (time c : ℕ) (cell : ExCell) → IsCellAt circuit c cell → (a b : Bool)
    → (cell.phase == time % 4) ≡ a → (cell.phase == (time + 2) % 4) ≡ b
    → AllByRecursion (IsDue circuit time)
    (elim a as (λ (x : Bool). List Event)
    [ true ↦ Switch c ∷ [] | false ↦ elim b as (λ (x : Bool). List Event) [ true ↦ Relax c ∷ [] | false ↦ [] ] ])
is_due_of circuit time c cell is true b p q =
    (record { cell = cell; cell_is = is; phase_is = eqb-true cell.phase (time % 4) p }, tt)
is_due_of circuit time c cell is false true p q =
    (record { cell = cell; cell_is = is; phase_is = eqb-true cell.phase ((time + 2) % 4) q }, tt)
is_due_of circuit time c cell is false false p q = tt

both_all : (P : Event → Type 0) (xs ys : List Event) → AllByRecursion P xs → AllByRecursion P ys
    → AllByRecursion P (xs ++ ys)
both_all P [] ys a b = b
both_all P (x ∷ xs) ys a b = (a.0, both_all P xs ys a.1 b)

-- the cells are those of the circuit from number n on
abbrev From : CircuitView → ℕ → List ExCell → Type 0
From circuit n cells = (i : ℕ) (cell : ExCell) → slice_get cells i ≡ Some cell → IsCellAt circuit (n + i) cell

From-first : (circuit : CircuitView) (n : ℕ) (cell : ExCell) (cells : List ExCell) → From circuit n (cell ∷ cells)
    → IsCellAt circuit n cell
From-first circuit n cell cells at = rw add-zero at (at 0 cell refl)

From-rest : (circuit : CircuitView) (n : ℕ) (cell : ExCell) (cells : List ExCell) → From circuit n (cell ∷ cells)
    → From circuit (suc n) cells
From-rest circuit n cell cells at i x is = let e : suc n + i ≡ n + suc i = omega arith in rw e (at (suc i) x is)

From-all : (circuit : CircuitView) → From circuit 0 circuit.cells
From-all circuit i cell is = let e : 0 + i ≡ i = omega arith in rw e is

is_due_from : (circuit : CircuitView) (time n : ℕ) (cells : List ExCell) → From circuit n cells
    → AllByRecursion (IsDue circuit time) (due_from time n cells)
is_due_from circuit time n [] at = tt
is_due_from circuit time n (cell ∷ cells) at =
    both_all (IsDue circuit time) (due_of time n cell) (due_from time (suc n) cells)
    (is_due_of circuit time n cell (From-first circuit n cell cells at) _ _ refl refl)
    (is_due_from circuit time (suc n) cells (From-rest circuit n cell cells at))

-- each event of the time is due at its cell
pub each_due : (circuit : CircuitView) (time : ℕ) → AllByRecursion (IsDue circuit time) (due_from time 0 circuit.cells)
each_due circuit time = is_due_from circuit time 0 circuit.cells (From-all circuit)

-- and so are they in any order
pub tick_due : (circuit : CircuitView) (time : ℕ) (events : List Event)
    → IsPermutation (due_from time 0 circuit.cells) events → AllByRecursion (IsDue circuit time) events
tick_due circuit time events tick =
    recursion_from_All (IsDue circuit time) events
    (All-permutation (IsDue circuit time) (due_from time 0 circuit.cells) events tick
    (All-from_recursion (IsDue circuit time) (due_from time 0 circuit.cells) (each_due circuit time)))

-- ---- how many events a cell has

abbrev pub event_count : ℕ → List Event → ℕ
event_count c events = count_by (λ event. eqb (cell_of event) c) events

same_eqb : (c : ℕ) → eqb c c ≡ true
same_eqb c = grind (arith, nat_tests)

pub own_event : (c : ℕ) (event : Event) (events : List Event) → cell_of event ≡ c
    → event_count c (event ∷ events) ≡ 1 + event_count c events
own_event c event events e =
    let k : eqb (cell_of event) c ≡ true = ap (λ (d : ℕ). eqb d c) e ∙ same_eqb c in
    sum_by-cons (λ x. cond (eqb (cell_of x) c) 1 0) event events
    ∙ ap (λ (b : Bool). cond b 1 0 + event_count c events) k

pub other_event : (c : ℕ) (event : Event) (events : List Event) → cell_of event ≢ c
    → event_count c (event ∷ events) ≡ event_count c events
other_event c event events ne =
    let k : eqb (cell_of event) c ≡ false = grind (arith, nat_tests) in
    omega (
      arith,
      sum_by-cons (λ x. cond (eqb (cell_of x) c) 1 0) event events
          ∙ ap (λ (b : Bool). cond b 1 0 + event_count c events) k,
    )

more_events : (c : ℕ) (xs ys : List Event) → event_count c ys ≤ event_count c (xs ++ ys)
more_events c [] ys = omega arith
more_events c (x ∷ xs) ys =
    omega (arith, more_events c xs ys, sum_by-cons (λ event. cond (eqb (cell_of event) c) 1 0) x (xs ++ ys))

-- a cell whose phase has an event at the time
abbrev pub Moves : ℕ → ExCell → Type 0
Moves time cell = (cell.phase ≡ time % 4) ⊎ (cell.phase ≡ (time + 2) % 4)

moving : (time c : ℕ) (cell : ExCell) (rest : List Event) → Moves time cell → (a b : Bool)
    → (cell.phase == time % 4) ≡ a → (cell.phase == (time + 2) % 4) ≡ b
    → 1 ≤ event_count c ((elim a as (λ (x : Bool). List Event)
    [ true ↦ Switch c ∷ [] | false ↦ elim b as (λ (x : Bool). List Event) [ true ↦ Relax c ∷ [] | false ↦ [] ] ])
    ++ rest)
moving time c cell rest moves true b p q = omega (arith, own_event c (Switch c) rest refl)
moving time c cell rest moves false true p q = omega (arith, own_event c (Relax c) rest refl)
moving time c cell rest (inl e) false false p q = let k : eqb cell.phase (time % 4) ≡ true =
    grind (arith, nat_tests) in absurd cc
moving time c cell rest (inr e) false false p q = let k : eqb cell.phase ((time + 2) % 4) ≡ true =
    grind (arith, nat_tests) in absurd cc

comes_from : (time n i : ℕ) (cells : List ExCell) (cell : ExCell) → slice_get cells i ≡ Some cell → Moves time cell
    → 1 ≤ event_count (n + i) (due_from time n cells)
comes_from time n i [] cell is moves = absurd cc
comes_from time n zero (x ∷ cells) cell is moves =
    let e : cell ≡ x = sym (same_Some x cell is) in
    rw add-zero (moving time n x (due_from time (suc n) cells) (subst (Moves time) e moves) _ _ refl refl)
comes_from time n (suc i) (x ∷ cells) cell is moves =
    let r : 1 ≤ event_count (suc n + i) (due_from time (suc n) cells) = comes_from time (suc n) i cells cell is moves in
    let e : n + suc i ≡ suc n + i = omega arith in
    rw e (omega (arith, r, more_events (suc n + i) (due_of time n x) (due_from time (suc n) cells)))

-- a cell that has an event at the time does have it in the tick
pub comes : (circuit : CircuitView) (time : ℕ) (events : List Event) (c : ℕ) (cell : ExCell)
    → IsPermutation (due_from time 0 circuit.cells) events → IsCellAt circuit c cell → Moves time cell
    → 1 ≤ event_count c events
comes circuit time events c cell tick is moves =
    let first : 1 ≤ event_count (0 + c) (due_from time 0 circuit.cells) =
    comes_from time 0 c circuit.cells cell is moves in
    let same : 0 + c ≡ c = omega arith in
    let second : 1 ≤ event_count c (due_from time 0 circuit.cells) = rw same at first in
    omega (
      arith,
      second,
      sum_by-IsPermutation (λ event. cond (eqb (cell_of event) c) 1 0)
          (due_from time 0 circuit.cells) events tick,
    )

-- ---- what one event changes

module _ (undecided : Flux → Type 0) (circuit : CircuitView) (word : Option (List Bool)) where
  pub Happens-length : (event : Event) (old new : List Flux) → Happens undecided circuit word old event new
      → length new ≡ length old
  Happens-length (Switch c) old new h = ap (λ (s : List Flux). length s) h.new_is ∙ length-set old c h.taken
  Happens-length (Relax c) old new h = ap (λ (s : List Flux). length s) h ∙ length-set old c Off

  pub Happen-length : (events : List Event) (old new : List Flux) → Happen undecided circuit word old events new
      → length new ≡ length old
  Happen-length [] old new h = ap (λ (s : List Flux). length s) h
  Happen-length (event ∷ events) old new h = Happen-length events h.0 new h.2 ∙ Happens-length event old h.0 h.1

  -- every other cell keeps its flux
  pub others_kept : (event : Event) (old new : List Flux) (d : ℕ) → Happens undecided circuit word old event new
      → d ≢ cell_of event → get_or new d Off ≡ get_or old d Off
  others_kept (Switch c) old new d h ne = ap (λ (s : List Flux). get_or s d Off) h.new_is
      ∙ get_or-set_other old c d h.taken Off ne
  others_kept (Relax c) old new d h ne = ap (λ (s : List Flux). get_or s d Off) h ∙ get_or-set_other old c d Off Off ne

  other_phase : (phase c d : ℕ) (cell : ExCell) → StandsIn circuit phase c → IsCellAt circuit d cell
      → cell.phase ≢ phase → d ≢ c
  other_phase phase c d cell due is other same =
      let e : Some due.cell ≡ Some cell = sym due.cell_is ∙ ap (λ (i : ℕ). slice_get circuit.cells i) (sym same) ∙ is in
      other (ap (λ (x : ExCell). x.phase) (sym (same_Some due.cell cell e)) ∙ due.phase_is)

  -- a cell that neither switches nor relaxes at the time keeps its flux
  pub still : (time : ℕ) (event : Event) (old new : List Flux) (d : ℕ) (cell : ExCell) → IsDue circuit time event
      → Happens undecided circuit word old event new
      → IsCellAt circuit d cell → cell.phase ≢ time % 4 → cell.phase ≢ (time + 2) % 4
      → get_or new d Off ≡ get_or old d Off
  still time (Switch c) old new d cell due h is p q = others_kept (Switch c) old new d h
      (other_phase (time % 4) c d cell due is p)
  still time (Relax c) old new d cell due h is p q = others_kept (Relax c) old new d h
      (other_phase ((time + 2) % 4) c d cell due is q)

-- the phase of a cell at which an event is due
pub due_phase : (circuit : CircuitView) (phase c : ℕ) (cell : ExCell) → StandsIn circuit phase c
    → IsCellAt circuit c cell → cell.phase ≡ phase
due_phase circuit phase c cell due is = ap (λ (x : ExCell). x.phase)
    (sym (same_Some due.cell cell (sym due.cell_is ∙ is))) ∙ due.phase_is

-- ---- what a cell holds once its event has come

-- Events leave a condition on states as it is, and under it each event of cell c gives the cell this flux.
-- Then the cell has the flux when all have happened, if its event is among them.
module _ (undecided : Flux → Type 0) (circuit : CircuitView) (word : Option (List Bool)) (time c : ℕ) (flux : Flux)
    (Meets : List Flux → Type 0)
    (kept : (event : Event) (old new : List Flux) → IsDue circuit time event
    → Happens undecided circuit word old event new → Meets old → Meets new)
    (gives : (event : Event) (old new : List Flux) → IsDue circuit time event → cell_of event ≡ c
    → Happens undecided circuit word old event new → Meets old → c < length old → get_or new c Off ≡ flux) where
  comes_or_holds : (event : Event) (events : List Event) (old new : List Flux) → IsDue circuit time event
      → Happens undecided circuit word old event new → Meets old → c < length old
      → (1 ≤ event_count c (event ∷ events)) ⊎ (get_or old c Off ≡ flux) → (1 ≤ event_count c events)
      ⊎ (get_or new c Off ≡ flux)
  comes_or_holds event events old new due h meets lt so =
      elim (cases_eq (cell_of event) c) [
        | inl e ↦ inr (gives event old new due e h meets lt)
        | inr ne ↦ elim so [
          | inl count ↦ inl (omega (arith, other_event c event events ne))
          | inr e ↦ inr (others_kept undecided circuit word event old new c h (λ q. ne (sym q)) ∙ e)
        ]
      ]

  pub ends_with : (events : List Event) (old new : List Flux) → AllByRecursion (IsDue circuit time) events
      → Happen undecided circuit word old events new → Meets old → c < length old
      → (1 ≤ event_count c events) ⊎ (get_or old c Off ≡ flux) → get_or new c Off ≡ flux
  ends_with [] old new due h meets lt (inl count) = absurd (omega arith)
  ends_with [] old new due h meets lt (inr e) = ap (λ (s : List Flux). get_or s c Off) h ∙ e
  ends_with (event ∷ events) old new due h meets lt so =
      ends_with events h.0 new due.1 h.2 (kept event old h.0 due.0 h.1 meets)
      (omega (arith, Happens-length undecided circuit word event old h.0 h.1))
      (comes_or_holds event events old h.0 due.0 h.1 meets lt so)
