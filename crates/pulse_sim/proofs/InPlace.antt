-- The settled tick in place: switching one cell after another, and then relaxing one after another, gives the state
-- that is computed from the state before.
use Rattle.std.proofs.Common.{◌≡◌, ◌≢◌, ℕ, suc, ◌+◌, ◌%◌, ◌<◌, ◌≤◌, Bool, true, false, eqb, List, [], ◌∷◌, ◌++◌, length}
use Rattle.std.proofs.Common.{get_or, set, Option, Some, refl, sym, ap, subst, ◌∙◌, arith, inl, inr, slice_get}
use Rattle.std.proofs.Common.{slice_index, ◌==◌}
use Rattle.std.proofs.lemmas.List.{get_or-set_other, get_or-set_same, length-set, ext_get_or}
use Rattle.std.proofs.Math.ListN.{get_or-append, length-append}
use Rattle.std.proofs.Math.Seq.{get_or-append_seam}
use Rattle.std.proofs.lemmas.Option.{same_Some, slice_get_within, slice_get-get_or, get_or_from_slice_get}
use Rattle.std.proofs.lemmas.Bool.{cases_eq, cases_lt, eqb-true}
use Rattle.std.proofs.lemmas.Bool.Decides.{nat_tests}
use Rattle.circuit_extracted.specs.declared.cells.Feed.{Feed}
use Rattle.circuit_extracted.specs.declared.cells.Feed.TheVariants.{Nothing, Pin, Label}
use Rattle.circuit_extracted.specs.declared.cells.ExCell.{ExCell}
use Rattle.circuit_extracted.specs.Circuits.{CircuitView, IsFeedOf, IsOutputBelow, KeepsFacts}
use Rattle.pulse_sim.specs.declared.flux.Flux.{Flux}
use Rattle.pulse_sim.specs.declared.flux.Flux.TheVariants.{Off}
use Rattle.pulse_sim.specs.Settled.{settled_take, feed_flux, feed_sum, settled_tick}
use Rattle.pulse_sim.specs.Pulsing.{IsInPhase, AreInPhase, AreByPhase}
use Rattle.pulse_sim.specs.Code.Steps.{IsNoneOf, AreSwitched, AreRelaxed, IsQuiet}
use Rattle.pulse_sim.proofs.Settling.{next_fluxes-length, next_fluxes-at, cell_at}

at_set : (state : List Flux) (j c : ℕ) (flux : Flux) → c ≡ j → j < length state → get_or (set state j flux) c Off ≡ flux
at_set state j c flux e lt = ap (λ (x : ℕ). get_or (set state j flux) x Off) e ∙ get_or-set_same state j flux Off lt

off_set : (state : List Flux) (j c : ℕ) (flux : Flux) → c ≢ j → get_or (set state j flux) c Off ≡ get_or state c Off
off_set state j c flux ne = get_or-set_other state j c flux Off ne

-- ---- one cell more

pub relaxed_more : (numbers : List ℕ) (n : ℕ) (old new : List Flux) → AreRelaxed numbers n old new
    → slice_index numbers n < length old → AreRelaxed numbers (n + 1) old (set new (slice_index numbers n) Off)
relaxed_more numbers n old new are lt =
    let j : ℕ = slice_index numbers n in
    let lt2 : j < length new = omega (arith, are.long) in
    record {
      long = length-set new j Off ∙ are.long;
      gone = λ p lp. elim (cases_eq (slice_index numbers p) j) [
        | inl e ↦ at_set new j (slice_index numbers p) Off e lt2
        | inr ne ↦ elim (cases_eq p n) [
          | inl same ↦ absurd (ne (ap (slice_index numbers) same))
          | inr other ↦ off_set new j (slice_index numbers p) Off ne ∙ are.gone p (omega arith)
        ]
      ];
      kept = λ c none. off_set new j c Off (λ e. none n (omega arith) (sym e))
          ∙ are.kept c (λ p lp. none p (omega arith));
    }

module _ (cells : List ExCell) (word : Option (List Bool)) (numbers : List ℕ) (quiet : IsQuiet cells numbers) (n : ℕ)
    (old new : List Flux) (are : AreSwitched cells word numbers n old new) (lt : n < length numbers) where
  same_feed : (feed : Feed) → ((q output : ℕ) → q < length numbers → feed ≡ Pin (slice_index numbers q) output → ⊥)
      → feed_flux word new feed ≡ feed_flux word old feed
  same_feed Nothing apart = refl
  same_feed (Label k) apart = refl
  same_feed (Pin d output) apart = are.kept d
      (λ p lp e. apart p output (omega arith) (ap (λ (x : ℕ). Pin x output) (sym e)))

  -- the cell that switches next reads what stood there before
  same_sum : (cell : ExCell) → slice_get cells (slice_index numbers n) ≡ Some cell
      → feed_sum word new cell ≡ feed_sum word old cell
  same_sum cell at =
      rw (
        same_feed cell.feed0 (λ q output lq. quiet n q 0 output cell lt lq at),
        same_feed cell.feed1
            (λ q output lq. quiet n q 1 output cell lt lq at),
        same_feed cell.feed2
            (λ q output lq. quiet n q 2 output cell lt lq at),
      ) refl

  switched_more : (cell : ExCell) → slice_get cells (slice_index numbers n) ≡ Some cell
      → slice_index numbers n < length old
      → AreSwitched cells word numbers (n + 1) old
      (set new (slice_index numbers n) (settled_take cell.kind (feed_sum word new cell)))
  switched_more cell at within =
      let j : ℕ = slice_index numbers n in
      let flux : Flux = settled_take cell.kind (feed_sum word new cell) in
      let lt2 : j < length new = omega (arith, are.long) in
      record {
        long = length-set new j flux ∙ are.long;
        taken = λ p other lp is. elim (cases_eq (slice_index numbers p) j) [
          | inl e ↦
              let same : cell ≡ other = same_Some cell other
              (sym at ∙ (ap (λ (x : ℕ). slice_get cells x) (sym e) ∙ is)) in
              at_set new j (slice_index numbers p) flux e lt2
              ∙ (ap (settled_take cell.kind) (same_sum cell at)
              ∙ ap (λ (x : ExCell). settled_take x.kind (feed_sum word old x)) same)
          | inr ne ↦ elim (cases_eq p n) [
            | inl same ↦ absurd (ne (ap (slice_index numbers) same))
            | inr different ↦ off_set new j (slice_index numbers p) flux ne ∙ are.taken p other (omega arith) is
          ]
        ];
        kept = λ c none. off_set new j c flux (λ e. none n (omega arith) (sym e))
            ∙ are.kept c (λ p lp. none p (omega arith));
      }

  pub switched_at : (d : ExCell) → slice_index numbers n < length cells → slice_index numbers n < length old
      → AreSwitched cells word numbers (n + 1) old
      (set new (slice_index numbers n)
      (settled_take (get_or cells (slice_index numbers n) d).kind
      (feed_sum word new (get_or cells (slice_index numbers n) d))))
  switched_at d there within = switched_more (get_or cells (slice_index numbers n) d)
      (slice_get-get_or cells (slice_index numbers n) d there) within

-- ---- phases

pub at_phase : (cells : List ExCell) (phases : List (List ℕ)) (phase : ℕ) (numbers : List ℕ) → AreByPhase cells phases
    → phase < 4 → numbers ≡ get_or phases phase numbers → AreInPhase cells phase numbers
at_phase cells phases phase numbers are lt is = are.each_phase phase numbers
    (slice_get-get_or phases phase numbers (omega (arith, are.four)) ∙ sym (ap Some is))

pub phase_within : (cells : List ExCell) (phase : ℕ) (numbers : List ℕ) → AreInPhase cells phase numbers → (p : ℕ)
    → p < length numbers → slice_index numbers p < length cells
phase_within cells phase numbers are p lp = let is = are.each p lp in slice_get_within cells
    (slice_index numbers p) is.cell is.cell_is

-- no cell reads a cell of its own phase
pub phase_quiet : (circuit : CircuitView) → KeepsFacts circuit → (phase : ℕ) (numbers : List ℕ)
    → AreInPhase circuit.cells phase numbers → IsQuiet circuit.cells numbers
phase_quiet circuit keeps phase numbers are p q i output cell lp lq at e =
    let here = are.each p lp in
    let there = are.each q lq in
    let of = keeps.cells (slice_index numbers p) cell at in
    let read : IsOutputBelow circuit cell.row (record { cell = slice_index numbers q; output = output }) =
    subst (IsFeedOf circuit cell.row) e (of.each_feed i) in
    let under = keeps.cells (slice_index numbers q) read.cell read.cell_is in
    let one : here.cell.phase ≡ cell.phase = ap (λ (x : ExCell). x.phase)
    (same_Some here.cell cell (sym here.cell_is ∙ at)) in
    let other : there.cell.phase ≡ read.cell.phase = ap (λ (x : ExCell). x.phase)
    (same_Some there.cell read.cell (sym there.cell_is ∙ read.cell_is)) in
    let a : cell.phase ≡ cell.row % 4 = of.phase_is in
    let b : read.cell.phase ≡ read.cell.row % 4 = under.phase_is in
    let below : read.cell.row + 1 ≡ cell.row = read.just_below in
    let first : here.cell.phase ≡ phase = here.phase_is in
    let second : there.cell.phase ≡ phase = there.phase_is in
    omega arith

-- ---- the whole tick

module _ (circuit : CircuitView) (word : Option (List Bool)) (time : ℕ) (old middle new : List Flux)
    (rising falling : List ℕ)
    (long : length old ≡ length circuit.cells)
    (up : AreInPhase circuit.cells (time % 4) rising) (down : AreInPhase circuit.cells ((time + 2) % 4) falling)
    (switched : AreSwitched circuit.cells word rising (length rising) old middle)
    (relaxed : AreRelaxed falling (length falling) middle new) where
  -- a cell of another phase is none of these
  none_in : (phase : ℕ) (numbers : List ℕ) → AreInPhase circuit.cells phase numbers → (c : ℕ) (cell : ExCell)
      → slice_get circuit.cells c ≡ Some cell → cell.phase ≢ phase → IsNoneOf numbers (length numbers) c
  none_in phase numbers are c cell at ne p lp e =
      let is = are.each p lp in
      let same : is.cell ≡ cell = same_Some is.cell cell (sym is.cell_is
      ∙ (ap (λ (x : ℕ). slice_get circuit.cells x) e ∙ at)) in
      ne (sym (ap (λ (x : ExCell). x.phase) same) ∙ is.phase_is)

  flux_is : (c : ℕ) (cell : ExCell) → slice_get circuit.cells c ≡ Some cell → (a b : Bool)
      → (cell.phase == time % 4) ≡ a → (cell.phase == (time + 2) % 4) ≡ b
      → get_or new c Off ≡ elim a as (λ (x : Bool). Flux) [
        | true ↦ settled_take cell.kind
            (feed_sum word old cell)
        | false ↦ elim b as (λ (x : Bool). Flux) [ true ↦ Off | false ↦ get_or old c Off ]
      ]
  flux_is c cell at true b p q =
      let phase : cell.phase ≡ time % 4 = eqb-true cell.phase (time % 4) p in
      let place = up.complete c (record { cell = cell; cell_is = at; phase_is = phase }) in
      let apart : cell.phase ≢ (time + 2) % 4 = λ e. omega arith in
      relaxed.kept c (none_in ((time + 2) % 4) falling down c cell at apart)
      ∙ subst (λ (x : ℕ). get_or middle x Off ≡ settled_take cell.kind (feed_sum word old cell)) place.1.1
      (switched.taken place.0 cell place.1.0 (ap (λ (x : ℕ). slice_get circuit.cells x) place.1.1 ∙ at))
  flux_is c cell at false true p q =
      let phase : cell.phase ≡ (time + 2) % 4 = eqb-true cell.phase ((time + 2) % 4) q in
      let place = down.complete c (record { cell = cell; cell_is = at; phase_is = phase }) in
      subst (λ (x : ℕ). get_or new x Off ≡ Off) place.1.1 (relaxed.gone place.0 place.1.0)
  flux_is c cell at false false p q =
      let other : cell.phase ≢ time % 4 =
      λ e. (let k : eqb cell.phase (time % 4) ≡ true = grind (arith, nat_tests) in absurd cc) in
      let another : cell.phase ≢ (time + 2) % 4 =
      λ e. (let k : eqb cell.phase ((time + 2) % 4) ≡ true = grind (arith, nat_tests) in absurd cc) in
      relaxed.kept c (none_in ((time + 2) % 4) falling down c cell at another)
      ∙ switched.kept c (none_in (time % 4) rising up c cell at other)

  pub ticked : new ≡ settled_tick circuit word time old
  ticked =
      let same : length new ≡ length old = relaxed.long ∙ switched.long in
      ext_get_or Off new (settled_tick circuit word time old)
      (same ∙ (long ∙ sym (next_fluxes-length word time old circuit.cells old long)))
      (λ c lt.
      let cell = cell_at circuit.cells c (omega arith) in
      flux_is c cell.0 cell.1 _ _ refl refl ∙ sym (next_fluxes-at word time old circuit.cells old c cell.0 long cell.1))

-- ---- the cells of a phase, listed

-- of the cells below n, these are those of this phase
pub record AreInPhaseBelow (n : ℕ) (cells : List ExCell) (phase : ℕ) (numbers : List ℕ) : Type 0 where
  pub each : (p : ℕ) → p < length numbers → IsInPhase cells phase (slice_index numbers p)
  pub complete : (c : ℕ) → c < n → IsInPhase cells phase c → (p : ℕ)
      × ((p < length numbers) × (slice_index numbers p ≡ c))

pub listed_more : (cells : List ExCell) (phase n : ℕ) (numbers : List ℕ) (d : ExCell)
    → AreInPhaseBelow n cells phase numbers → n < length cells → (get_or cells n d).phase ≡ phase
    → AreInPhaseBelow (n + 1) cells phase (numbers ++ (n ∷ []))
listed_more cells phase n numbers d are lt of =
    let long : length (numbers ++ (n ∷ [])) ≡ suc (length numbers) = omega (arith, length-append numbers (n ∷ [])) in
    let last : slice_index (numbers ++ (n ∷ [])) (length numbers) ≡ n = get_or-append_seam numbers n [] 0 in
    record {
      each = λ p lp. elim (cases_lt p (length numbers)) [
        | inl less ↦ subst (λ (x : ℕ). IsInPhase cells phase x)
            (sym (get_or-append numbers (n ∷ []) 0 p less)) (are.each p less)
        | inr more ↦
            let e : p ≡ length numbers = omega arith in
            let here : IsInPhase cells phase n =
            record { cell = get_or cells n d; cell_is = slice_get-get_or cells n d lt; phase_is = of } in
            subst (λ (x : ℕ). IsInPhase cells phase (slice_index (numbers ++ (n ∷ [])) x)) (sym e)
            (subst (λ (x : ℕ). IsInPhase cells phase x) (sym last) here)
      ];
      complete = λ c lc of_phase. elim (cases_eq c n) [
        | inl e ↦ (length numbers, (omega arith, last ∙ sym e))
        | inr ne ↦ let p = are.complete c (omega arith) of_phase in
            (p.0, (omega (arith, p.1.0), get_or-append numbers (n ∷ []) 0 p.0 p.1.0 ∙ p.1.1))
      ];
    }

pub listed_same : (cells : List ExCell) (phase n : ℕ) (numbers : List ℕ) (d : ExCell)
    → AreInPhaseBelow n cells phase numbers → (get_or cells n d).phase ≢ phase
    → AreInPhaseBelow (n + 1) cells phase numbers
listed_same cells phase n numbers d are other = record {
  each = are.each;
  complete = λ c lc of_phase. elim (cases_eq c n) [
    | inl e ↦
        let same : get_or cells n d ≡ of_phase.cell = ap (λ (x : ℕ). get_or cells x d) (sym e)
        ∙ get_or_from_slice_get cells c of_phase.cell d of_phase.cell_is in
        absurd (other (ap (λ (x : ExCell). x.phase) same ∙ of_phase.phase_is))
    | inr ne ↦ are.complete c (omega arith) of_phase
  ];
}

pub listed_all : (cells : List ExCell) (phase n : ℕ) (numbers : List ℕ) → length cells ≤ n
    → AreInPhaseBelow n cells phase numbers → AreInPhase cells phase numbers
listed_all cells phase n numbers all are =
    record {
      each = are.each;
      complete =
          λ c is. (let within : c < length cells =
          slice_get_within cells c is.cell is.cell_is in are.complete c (omega arith) is);
    }

-- the lists of the phases below n
pub record AreByPhaseBelow (n : ℕ) (cells : List ExCell) (phases : List (List ℕ)) : Type 0 where
  pub long : length phases ≡ n
  pub each_phase : (phase : ℕ) (numbers : List ℕ) → slice_get phases phase ≡ Some numbers
      → AreInPhase cells phase numbers

pub phases_more : (cells : List ExCell) (n : ℕ) (phases : List (List ℕ)) (numbers : List ℕ)
    → AreByPhaseBelow n cells phases → AreInPhase cells n numbers
    → AreByPhaseBelow (n + 1) cells (phases ++ (numbers ∷ []))
phases_more cells n phases numbers are more = record {
  long = omega (arith, length-append phases (numbers ∷ []), are.long);
  each_phase = λ phase others is. (
      let within : phase < length (phases ++ (numbers ∷ [])) = slice_get_within
      (phases ++ (numbers ∷ [])) phase others is in
      let got : get_or (phases ++ (numbers ∷ [])) phase [] ≡ others = get_or_from_slice_get
      (phases ++ (numbers ∷ [])) phase others [] is in
      elim (cases_lt phase (length phases)) [
        | inl less ↦ are.each_phase phase others (slice_get-get_or phases phase [] less
            ∙ ap Some (sym (get_or-append phases (numbers ∷ []) [] phase less) ∙ got))
        | inr here ↦
            let e : phase ≡ length phases = omega (arith, length-append phases (numbers ∷ [])) in
            let same : numbers ≡ others = sym (get_or-append_seam phases numbers [] [])
            ∙ (ap (λ (x : ℕ). get_or (phases ++ (numbers ∷ [])) x []) (sym e) ∙ got) in
            subst (λ (x : List ℕ). AreInPhase cells phase x) same
            (subst (λ (x : ℕ). AreInPhase cells x numbers) (sym (e ∙ are.long)) more)
      ]
      );
}
