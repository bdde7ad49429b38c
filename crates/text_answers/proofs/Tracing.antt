-- Printing fluxes row by row and time by time.
use Rattle.std.proofs.Common.{◌≡◌, ◌≢◌, ℕ, zero, suc, ◌+◌, ◌-◌, ◌<◌, ◌≤◌, ◌==◌, Bool, true, false, inl, inr, List, []}
use Rattle.std.proofs.Common.{◌∷◌, ◌++◌, length, map, take, drop, get_or, slice_get, Some, Result, Ok, Err, OnOk, IfErr}
use Rattle.std.proofs.Common.{refl, sym, ap, subst, ◌∙◌, arith, append_assoc, append-nil, add-one}
use Rattle.std.proofs.lemmas.Bool.Decides.{nat_tests}
use Rattle.std.specs.List.Sorted.{IsNonDecreasingBy}
use Rattle.std.proofs.lemmas.Bool.{cases_lt}
use Rattle.std.proofs.Math.Seq.{drop-nil, take-nil}
use Rattle.std.proofs.lemmas.List.{take_more, get_or-drop, length-drop, map-append}
use Rattle.std.proofs.lemmas.Option.{get_or_from_slice_get, slice_get-get_or, slice_get_within}
use Rattle.aq_base.specs.Output.{Output, printed}
use Rattle.aq_base.specs.declared.store.StoreRefusal.{StoreRefusal}
use Rattle.circuit_extracted.specs.declared.cells.ExCell.{ExCell}
use Rattle.circuit_extracted.specs.Circuits.{CircuitView}
use Rattle.pulse_sim.specs.declared.flux.Flux.{Flux}
use Rattle.pulse_sim.specs.Settled.{settled_run}
use Rattle.text_answers.specs.Counts.{counts_line, delay_of}
use Rattle.text_answers.specs.FluxLines.{sign_of, signs_in, row_lines, time_lines, ticks_for, trace_text}
use Rattle.text_answers.specs.Printing.{PrintsWithin, IsPrinted, PutsPage, RefusesPage}
use Rattle.text_answers.specs.RowStarts.{IsRowStart, StandsIn}
use Rattle.text_answers.proofs.Pages.{within_first, nothing_printed, all_put}

-- the cells from one number up to another stand in this row
abbrev pub AreInRow : List ExCell → ℕ → ℕ → ℕ → Type 0
AreInRow cells row first next = (c : ℕ) (cell : ExCell) → first ≤ c → c < next
    → slice_get cells c ≡ Some cell → cell.row ≡ row

abbrev AreAbove : List ExCell → ℕ → ℕ → Type 0
AreAbove cells row next = (c : ℕ) (cell : ExCell) → next ≤ c → slice_get cells c ≡ Some cell → cell.row ≢ row

abbrev AreBelow : List ExCell → ℕ → ℕ → Type 0
AreBelow cells row first = (c : ℕ) (cell : ExCell) → c < first → slice_get cells c ≡ Some cell → cell.row ≢ row

chosen : (b : Bool) (x y : List ℕ) → b ≡ true → elim b [ true ↦ x | false ↦ y ] ≡ x
chosen true x y e = refl
chosen false x y e = absurd cc

passed : (b : Bool) (x y : List ℕ) → b ≡ false → elim b [ true ↦ x | false ↦ y ] ≡ y
passed true x y e = absurd cc
passed false x y e = refl

-- one cell's sign
sign_first : (row : ℕ) (cell : ExCell) (flux : Flux) (cells : List ExCell) (fluxes : List Flux) → cell.row ≡ row
    → signs_in row (cell ∷ cells) (flux ∷ fluxes) ≡ sign_of flux ∷ signs_in row cells fluxes
sign_first row cell flux cells fluxes e = let here : (cell.row == row) ≡ true = grind (arith, nat_tests) in chosen
    (cell.row == row) _ _ here

sign_passed : (row : ℕ) (cell : ExCell) (flux : Flux) (cells : List ExCell) (fluxes : List Flux) → cell.row ≢ row
    → signs_in row (cell ∷ cells) (flux ∷ fluxes) ≡ signs_in row cells fluxes
sign_passed row cell flux cells fluxes ne = let here : (cell.row == row) ≡ false = grind (arith, nat_tests) in passed
    (cell.row == row) _ _ here

below_next : (row : ℕ) (cell : ExCell) (cells : List ExCell) (first : ℕ) → AreBelow (cell ∷ cells) row (suc first)
    → AreBelow cells row first
below_next row cell cells first below c x lt at = below (suc c) x (omega arith) at

in_row_next : (row : ℕ) (cell : ExCell) (cells : List ExCell) (first next : ℕ)
    → AreInRow (cell ∷ cells) row (suc first) (suc next) → AreInRow cells row first next
in_row_next row cell cells first next within c x le lt at = within (suc c) x (omega arith) (omega arith) at

in_row_rest : (row : ℕ) (cell : ExCell) (cells : List ExCell) (next : ℕ) → AreInRow (cell ∷ cells) row zero (suc next)
    → AreInRow cells row zero next
in_row_rest row cell cells next within c x le lt at = within (suc c) x (omega arith) (omega arith) at

above_next : (row : ℕ) (cell : ExCell) (cells : List ExCell) (next : ℕ) → AreAbove (cell ∷ cells) row (suc next)
    → AreAbove cells row next
above_next row cell cells next above c x le at = above (suc c) x (omega arith) at

above_rest : (row : ℕ) (cell : ExCell) (cells : List ExCell) → AreAbove (cell ∷ cells) row zero
    → AreAbove cells row zero
above_rest row cell cells above c x le at = above (suc c) x (omega arith) at

-- the signs of a row are those of the fluxes from its first cell up to the next row's
pub signs_between : (row : ℕ) (cells : List ExCell) (fluxes : List Flux) (first next : ℕ) → first ≤ next
    → next ≤ length cells → AreBelow cells row first → AreInRow cells row first next → AreAbove cells row next →
    signs_in row cells fluxes ≡ map sign_of (take (next - first) (drop first fluxes))
signs_between row [] fluxes first next le bound below within above = let none : ◌≡◌ {A = ℕ} (next - first) 0 =
    omega (arith, le, bound) in rw none refl
signs_between row (cell ∷ cells) [] first next le bound below within above =
    rw (drop-nil first, take-nil (next - first)) refl
signs_between row (cell ∷ cells) (flux ∷ fluxes) zero zero le bound below within above =
    sign_passed row cell flux cells fluxes (above 0 cell (omega arith) refl)
    ∙ (signs_between row cells fluxes 0 0 (omega arith) (omega arith) (λ c x lt at. absurd (omega arith))
    (λ c x ge lt at. absurd (omega arith)) (above_rest row cell cells above))
signs_between row (cell ∷ cells) (flux ∷ fluxes) zero (suc next) le bound below within above =
    let count : ◌≡◌ {A = ℕ} (suc next - 0) (suc next) = omega arith in
    let fewer : ◌≡◌ {A = ℕ} (next - 0) next = omega arith in
    let rest : signs_in row cells fluxes ≡ map sign_of (take (next - 0) fluxes) = signs_between row cells fluxes 0 next
    (omega arith) (omega (arith, bound)) (λ c x lt at. absurd (omega arith))
    (in_row_rest row cell cells next within) (above_next row cell cells next above) in
    sign_first row cell flux cells fluxes (within 0 cell (omega arith) (omega arith) refl)
    ∙ (ap (λ signs. sign_of flux ∷ signs) (rest ∙ ap (λ n. map sign_of (take n fluxes)) fewer)
    ∙ ap (λ n. map sign_of (take n (flux ∷ fluxes))) (sym count))
signs_between row (cell ∷ cells) (flux ∷ fluxes) (suc first) zero le bound below within above = absurd (omega arith)
signs_between row (cell ∷ cells) (flux ∷ fluxes) (suc first) (suc next) le bound below within above =
    let same : ◌≡◌ {A = ℕ} (next - first) (suc next - suc first) = omega arith in
    sign_passed row cell flux cells fluxes (below 0 cell (omega arith) refl)
    ∙ (signs_between row cells fluxes first next (omega (arith, le)) (omega (arith, bound))
    (below_next row cell cells first below) (in_row_next row cell cells first next within)
    (above_next row cell cells next above)
    ∙ ap (λ n. map sign_of (take n (drop first fluxes))) same)

rising_at : (cells : List ExCell) (i j : ℕ) (x y : ExCell) → IsNonDecreasingBy (λ cell. cell.row) cells → i ≤ j
    → slice_get cells i ≡ Some x → slice_get cells j ≡ Some y → x.row ≤ y.row
rising_at cells i j x y rising le at_i at_j =
    let long : j < length cells = slice_get_within cells j y at_j in
    subst (λ z. z.row ≤ y.row) (get_or_from_slice_get cells i x x at_i)
    (subst (λ z. (get_or cells i x).row ≤ z.row) (get_or_from_slice_get cells j y x at_j) (rising i j x le long))

-- the cells from where a row ends stand above it
above_row : (row : ℕ) (cells : List ExCell) (first next : ℕ) → IsNonDecreasingBy (λ cell. cell.row) cells
    → IsRowStart cells row first → first ≤ next → StandsIn cells next row false →
    (c : ℕ) (cell : ExCell) → next ≤ c → slice_get cells c ≡ Some cell → row + 1 ≤ cell.row
above_row row cells first next rising start le ends c cell ge at =
    let long : c < length cells = slice_get_within cells c cell at in
    let middle : ExCell = get_or cells next cell in
    let at_next : slice_get cells next ≡ Some middle = slice_get-get_or cells next cell (omega (arith, long, ge)) in
    let other : middle.row ≢ row = ends middle at_next in
    let least : row ≤ middle.row = start.from next middle le at_next in
    let more : middle.row ≤ cell.row = rising_at cells next c middle cell rising ge at_next at in
    omega (arith, other, least, more)

-- the row's signs are all there, where the next cell stands in another row
pub row_done : (row : ℕ) (cells : List ExCell) (fluxes : List Flux) (first next : ℕ) (page page' : List ℕ)
    → IsNonDecreasingBy (λ cell. cell.row) cells → IsRowStart cells row first → first ≤ next → next ≤ length cells →
    AreInRow cells row first next → StandsIn cells next row false
    → page' ≡ page ++ map sign_of (take (next - first) (drop first fluxes))
    → page' ≡ page ++ signs_in row cells fluxes
row_done row cells fluxes first next page page' rising start le bound within ends made =
    made ∙ ap (λ signs. page ++ signs) (sym (signs_between row cells fluxes first next le bound
    (λ c x lt at. (let low : x.row < row = start.before c x lt at in omega (arith, low))) within
    (λ c x ge at. (let high : row + 1 ≤ x.row =
    above_row row cells first next rising start le ends c x ge at in omega (arith, high)))))

-- and there the next row begins
pub next_row : (row : ℕ) (cells : List ExCell) (first next : ℕ) → IsNonDecreasingBy (λ cell. cell.row) cells
    → IsRowStart cells row first → first ≤ next → next ≤ length cells → AreInRow cells row first next
    → StandsIn cells next row false → IsRowStart cells (row + 1) next
next_row row cells first next rising start le bound within ends = record {
  within = bound;
  before = λ c x lt at. elim (cases_lt c first) [
    | inl early ↦ (let low : x.row < row = start.before c x early at in omega (arith, low))
    | inr late ↦ (let same : x.row ≡ row = within c x late lt at in omega (arith, same))
  ];
  from = λ c x ge at. above_row row cells first next rising start le ends c x ge at;
}

-- one sign more
pub sign_more : (row : ℕ) (cells : List ExCell) (fluxes : List Flux) (flux : Flux) (first next b : ℕ)
    (page now now' : List ℕ) → first ≤ next → slice_get fluxes next ≡ Some flux → b ≡ sign_of flux →
    now ≡ page ++ map sign_of (take (next - first) (drop first fluxes)) → now' ≡ now ++ b ∷ []
    → now' ≡ page ++ map sign_of (take (next + 1 - first) (drop first fluxes))
sign_more row cells fluxes flux first next b page now now' le at sign so_far made =
    let long : next < length fluxes = slice_get_within fluxes next flux at in
    let count : ◌≡◌ {A = ℕ} (next + 1 - first) (next - first + 1) = omega (arith, le) in
    let place : ◌≡◌ {A = ℕ} (first + (next - first)) next = omega (arith, le) in
    let item : get_or (drop first fluxes) (next - first) flux ≡ flux = get_or-drop first fluxes (next - first) flux
    ∙ (ap (λ n. get_or fluxes n flux) place ∙ get_or_from_slice_get fluxes next flux flux at) in
    let taken : take (next + 1 - first) (drop first fluxes) ≡ take (next - first) (drop first fluxes) ++ flux ∷ [] =
    ap (λ n. take n (drop first fluxes)) count
    ∙ (take_more (drop first fluxes) (next - first) flux (rw (length-drop first fluxes) (omega (arith, le, long)))
    ∙ ap (λ f. take (next - first) (drop first fluxes) ++ f ∷ []) item) in
    made ∙ (ap (λ t. t ++ b ∷ []) so_far
    ∙ (append_assoc page (map sign_of (take (next - first) (drop first fluxes))) (b ∷ [])
    ∙ ap (λ signs. page ++ signs) (ap (λ s. map sign_of (take (next - first) (drop first fluxes)) ++ s ∷ []) sign
    ∙ (sym (map-append sign_of (take (next - first) (drop first fluxes)) (flux ∷ []))
    ∙ ap (map sign_of) (sym taken)))))

pub in_row_more : (cells : List ExCell) (row first next : ℕ) → AreInRow cells row first next
    → StandsIn cells next row true → AreInRow cells row first (next + 1)
in_row_more cells row first next so_far here c x ge lt at = elim (cases_lt c next) [
  | inl early ↦ so_far c x ge early at
  | inr late ↦ (let same : ◌≡◌ {A = ℕ} c next = omega (arith, lt, late) in here.1 x
      (subst (λ n. slice_get cells n ≡ Some x) same at))
]

-- the text of the first times
unfoldable pub trace_to : CircuitView → List (List Bool) → ℕ → List ℕ
trace_to circuit words time = counts_line circuit ++ time_lines circuit words time

pub trace_more : (circuit : CircuitView) (words : List (List Bool)) (time : ℕ)
    → trace_to circuit words time ++ row_lines circuit time
    (settled_run circuit words (time + 1)) circuit.rows ≡ trace_to circuit words (time + 1)
unfolding trace_to
trace_more circuit words time =
    append_assoc (counts_line circuit) (time_lines circuit words time)
    (row_lines circuit time (settled_run circuit words (time + 1)) circuit.rows)
    ∙ ap (λ lines. counts_line circuit ++ lines)
    (ap (λ n. time_lines circuit words time ++ row_lines circuit time (settled_run circuit words n) circuit.rows)
    (add-one time) ∙ ap (time_lines circuit words) (sym (add-one time)))

-- the same, with the words as the run has them
pub trace_more_of : (circuit : CircuitView) (words same : List (List Bool)) (time : ℕ) → same ≡ words
    → trace_to circuit words time ++ row_lines circuit time
    (settled_run circuit same (time + 1)) circuit.rows ≡ trace_to circuit words (time + 1)
trace_more_of circuit words same time e =
    ap (λ ws. trace_to circuit words time ++ row_lines circuit time (settled_run circuit ws (time + 1)) circuit.rows) e
    ∙ trace_more circuit words time

record Begins (front whole : List ℕ) : Type 0 where
  pub rest : List ℕ
  pub whole_is : whole ≡ front ++ rest

begins_more : (circuit : CircuitView) (words : List (List Bool)) (k m : ℕ)
    → Begins (trace_to circuit words k) (trace_to circuit words (k + m))
begins_more circuit words k zero =
    record {
      rest = [];
      whole_is = let same : ◌≡◌ {A = ℕ} (k + 0) k = omega arith in ap (trace_to circuit words) same
          ∙ sym (append-nil (trace_to circuit words k));
    }
begins_more circuit words k (suc m) =
    let one : Begins (trace_to circuit words k) (trace_to circuit words (k + m)) = begins_more circuit words k m in
    let lines : List ℕ = row_lines circuit (k + m) (settled_run circuit words (k + m + 1)) circuit.rows in
    record {
      rest = one.rest ++ lines;
      whole_is = (let same : ◌≡◌ {A = ℕ} (k + suc m) (k + m + 1) = omega arith in ap (trace_to circuit words) same)
          ∙ (sym (trace_more circuit words (k + m))
          ∙ (ap (λ t. t ++ lines) one.whole_is ∙ append_assoc (trace_to circuit words k) one.rest lines));
    }

-- some first bytes of the first times' text are some of the whole
pub prefix_of_trace : (circuit : CircuitView) (words : List (List Bool)) (k n : ℕ) (before now : Output)
    (why : StoreRefusal) → k ≤ n → PrintsWithin before now (trace_to circuit words k) why
    → PrintsWithin before now (trace_to circuit words n) why
prefix_of_trace circuit words k n before now why le part =
    let more : Begins (trace_to circuit words k) (trace_to circuit words (k + (n - k))) =
    begins_more circuit words k (n - k) in
    let whole : trace_to circuit words n ≡ trace_to circuit words k ++ more.rest =
    (let same : ◌≡◌ {A = ℕ} n (k + (n - k)) = omega (arith, le) in ap (trace_to circuit words) same)
    ∙ more.whole_is in
    rw whole (within_first more.rest part)

pub trace_whole : (circuit : CircuitView) (words : List (List Bool)) (n : ℕ)
    → n ≡ ticks_for (delay_of circuit) (length words) → trace_to circuit words n ≡ trace_text circuit words
unfolding trace_to trace_text
trace_whole circuit words n e = ap (λ t. counts_line circuit ++ time_lines circuit words t) e

-- before the first time the page has the counts line
pub trace_begins : (old : Output) (page : List ℕ) (circuit : CircuitView) (words : List (List Bool))
    → page ≡ counts_line circuit → IsPrinted old old page (trace_to circuit words 0)
unfolding trace_to
trace_begins old page circuit words made = nothing_printed old page (counts_line circuit ++ [])
    (append-nil (counts_line circuit) ∙ sym made)

-- the last page is put
pub all_traced : (circuit : CircuitView) (words : List (List Bool)) (before old now : Output) (page left : List ℕ)
    (time : ℕ) (result : Result (Unit {0}) StoreRefusal) → time ≡ ticks_for (delay_of circuit) (length words) →
    IsPrinted before old page (trace_to circuit words time) → OnOk result (PutsPage old now page left)
    → OnOk result (left ≡ []) → OnOk result (now ≡ printed (trace_text circuit words) before)
all_traced circuit words before old now page left time (Ok x) end is put empty =
    all_put before now (trace_text circuit words)
    (subst (IsPrinted before now []) (trace_whole circuit words time end)
    (subst (λ l. IsPrinted before now l (trace_to circuit words time)) empty
    (put before (trace_to circuit words time) is)))
all_traced circuit words before old now page left time (Err e) end is put empty = tt

pub trace_refused : (circuit : CircuitView) (words : List (List Bool)) (before old now : Output) (page : List ℕ)
    (time : ℕ) (result : Result (Unit {0}) StoreRefusal) → time ≡ ticks_for (delay_of circuit) (length words) →
    IsPrinted before old page (trace_to circuit words time) → IfErr result (RefusesPage old now page)
    → IfErr result (PrintsWithin before now (trace_text circuit words))
trace_refused circuit words before old now page time (Ok x) end is refused = tt
trace_refused circuit words before old now page time (Err why) end is refused =
    subst (λ t. PrintsWithin before now t why) (trace_whole circuit words time end)
    (refused before (trace_to circuit words time) is)
