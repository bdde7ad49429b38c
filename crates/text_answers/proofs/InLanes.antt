-- 128 words at once: what stands in a lane.
use Rattle.std.proofs.Common.{◌≡◌, ◌≢◌, ℕ, zero, suc, ◌+◌, ◌*◌, ◌^◌, ◌/◌, ◌%◌, ◌==◌, ◌<◌, ◌≤◌, Bool, true, false, not}
use Rattle.std.proofs.Common.{List, [], ◌∷◌, ◌++◌, length, get_or, set, take, map, Some, slice_get, refl, sym, ap}
use Rattle.std.proofs.Common.{subst, ◌∙◌, arith, inl, inr, ◌-◌, bit_and, bit_or}
use Rattle.std.specs.Int.{w128, bit_at, bit_not}
use Rattle.std.specs.List.Sorted.{IsNonDecreasingBy}
use Rattle.std.proofs.Math.ListN.{get_or-append, length-append}
use Rattle.std.proofs.Math.Seq.{get_or-append_seam, map-set_same}
use Rattle.std.proofs.lemmas.Bool.{cases_eq, cases_lt}
use Rattle.std.proofs.lemmas.List.{length-map, map-set}
use Rattle.std.proofs.lemmas.Nat.Bits.{bit_at_not, bit_at_ones, bit_at-lt, shr_and_one, bit_at_set_same}
use Rattle.std.proofs.lemmas.Nat.Bits.{bit_at_set_other, bit_at_clear_same, bit_at_clear_other}
use Rattle.std.proofs.lemmas.Option.{same_Some, slice_get_within, slice_get-get_or, get_or_from_slice_get}
use Rattle.truth_tables.specs.Tables.{holds}
use Rattle.truth_tables.proofs.Bits.{holds_none}
use Rattle.circuit.specs.Function.{value_of}
use Rattle.rowed.specs.declared.source.Source.{Source}
use Rattle.circuit_extracted.specs.declared.cells.Feed.{Feed}
use Rattle.circuit_extracted.specs.declared.cells.Feed.TheVariants.{Nothing, Pin, Label}
use Rattle.circuit_extracted.specs.declared.cells.ExCell.{ExCell}
use Rattle.circuit_extracted.specs.Circuits.{CircuitView, IsFeedOf, IsOutputBelow, KeepsFacts}
use Rattle.circuit_extracted.specs.Answers.{feed_value, cell_value, values_at}
use Rattle.circuit_extracted.specs.Code.Evaluation.{AreFedBefore}
use Rattle.text_answers.specs.Code.Lanes.{in_lane, lane_value, feed_number, AreLaneValues}
use Rattle.text_answers.specs.WordsText.{is_one, word_of}
use Rattle.text_answers.proofs.Reading.{copied_more}

-- ---- bits

pub set_here : (number lane : ℕ) → lane < 128 → holds (bit_or number (1 * 2 ^ lane % 2 ^ 128)) lane ≡ true
unfolding holds
set_here number lane lt = ap (λ n. n == 1) (bit_at_set_same w128 number lane lt)

pub set_others : (number lane l : ℕ) → lane < 128 → l ≢ lane
    → holds (bit_or number (1 * 2 ^ lane % 2 ^ 128)) l ≡ holds number l
unfolding holds
set_others number lane l lt other = ap (λ n. n == 1) (bit_at_set_other w128 number lane lt l other)

pub clear_here : (number lane : ℕ) → lane < 128
    → holds (bit_and number (bit_not w128 (1 * 2 ^ lane % 2 ^ 128))) lane ≡ false
unfolding holds
clear_here number lane lt = ap (λ n. n == 1) (bit_at_clear_same w128 number lane lt)

pub clear_others : (number lane l : ℕ) → lane < 128 → l < 128 → l ≢ lane
    → holds (bit_and number (bit_not w128 (1 * 2 ^ lane % 2 ^ 128))) l ≡ holds number l
unfolding holds
clear_others number lane l lt below other = ap (λ n. n == 1) (bit_at_clear_other w128 number lane lt l below other)

not_test : (a : ℕ) → a < 2 → ((1 - a) == 1) ≡ not (a == 1)
not_test zero p = refl
not_test (suc zero) p = refl
not_test (suc (suc a)) p = absurd (omega arith)

pub not_holds : (number l : ℕ) → number < 2 ^ 128 → l < 128 → holds (bit_not w128 number) l ≡ not (holds number l)
unfolding holds
not_holds number l fits lane = ap (λ n. n == 1) (bit_at_not w128 number l fits lane)
    ∙ not_test (bit_at number l) (bit_at-lt number l)

pub ones_hold : (l : ℕ) → l < 128 → holds 340282366920938463463374607431768211455 l ≡ true
unfolding holds
ones_hold l lane = ap (λ n. n == 1) (bit_at_ones 128 l lane)

pub test_holds : (number lane : ℕ) → (bit_and (number / 2 ^ lane) 1 == 1) ≡ holds number lane
unfolding holds
test_holds number lane = ap (λ n. n == 1) (shr_and_one number lane)

-- ---- lists of numbers

pub lane_at : (l : ℕ) (numbers : List ℕ) (i : ℕ) → get_or (in_lane l numbers) i false ≡ lane_value l numbers i
lane_at l [] i = sym (holds_none l)
lane_at l (x ∷ xs) zero = refl
lane_at l (x ∷ xs) (suc i) = lane_at l xs i

-- one more value of a lane's word
pub copied_lane : (lane : ℕ) (line into : List ℕ) (number place : ℕ) → place < length line → length into ≡ length line
    → take place (in_lane lane into) ≡ take place (word_of line) →
    holds number lane ≡ is_one (get_or line place 0)
    → take (place + 1) (in_lane lane (set into place number)) ≡ take (place + 1) (word_of line)
copied_lane lane line into number place within long so_far is =
    copied_more line (in_lane lane into) (in_lane lane (set into place number)) place within
    (length-map into (λ n. holds n lane) ∙ long) so_far
    (map-set (λ n. holds n lane) into place number ∙ ap (λ b. set (in_lane lane into) place b) is)

-- the other lanes are as they were
pub other_lane : (l : ℕ) (into : List ℕ) (number place : ℕ) → holds number l ≡ holds (get_or into place 0) l
    → in_lane l (set into place number) ≡ in_lane l into
other_lane l into number place same = map-set_same (λ n. holds n l) into place number 0 same

-- a feed's value, as it is read
pub fed_number : (l : ℕ) (words values : List ℕ) (feed : Feed)
    → holds (feed_number words values feed) l ≡ feed_value (in_lane l words) (lane_value l values) feed
fed_number l words values Nothing = holds_none l
fed_number l words values (Pin cell output) = refl
fed_number l words values (Label input) = sym (lane_at l words input)

-- what a cell's function gives of these numbers
pub lane_cell : (l : ℕ) (words values : List ℕ) (cell : ExCell) (a b c : ℕ) → a ≡ feed_number words values cell.feed0
    → b ≡ feed_number words values cell.feed1 → c ≡ feed_number words values cell.feed2 →
    value_of cell.kind (holds a l) (holds b l) (holds c l) ≡ cell_value (in_lane l words) (lane_value l values) cell
lane_cell l words values cell a b c first second third =
    let e0 : holds a l ≡ feed_value (in_lane l words) (lane_value l values) cell.feed0 = ap (λ n. holds n l) first
    ∙ fed_number l words values cell.feed0 in
    let e1 : holds b l ≡ feed_value (in_lane l words) (lane_value l values) cell.feed1 = ap (λ n. holds n l) second
    ∙ fed_number l words values cell.feed1 in
    let e2 : holds c l ≡ feed_value (in_lane l words) (lane_value l values) cell.feed2 = ap (λ n. holds n l) third
    ∙ fed_number l words values cell.feed2 in
    ap (λ (x : Bool). value_of cell.kind x (holds b l) (holds c l)) e0
    ∙ (ap (λ (x : Bool). value_of cell.kind
    (feed_value (in_lane l words) (lane_value l values) cell.feed0) x (holds c l)) e1
    ∙ ap (λ (x : Bool). value_of cell.kind (feed_value (in_lane l words) (lane_value l values) cell.feed0)
    (feed_value (in_lane l words) (lane_value l values) cell.feed1) x) e2)

-- a lane of the numbers that sources have
pub shown_lane : (l : ℕ) (values : List ℕ) (sources : List Source)
    → in_lane l (map (λ source. get_or values source.cell 0) sources) ≡ values_at sources (lane_value l values)
shown_lane l values [] = refl
shown_lane l values (source ∷ sources) = ap (λ rest. holds (get_or values source.cell 0) l ∷ rest)
    (shown_lane l values sources)

-- ---- the first cells, and one more

-- each of the first cells has the value that its function gives
abbrev pub FitsBelow : ℕ → List ExCell → List Bool → (ℕ → Bool) → Type 0
FitsBelow n cells word value = (c : ℕ) (cell : ExCell) → c < n → slice_get cells c ≡ Some cell
    → value c ≡ cell_value word value cell

module _ (cells : List ExCell) (word : List Bool) (before : AreFedBefore cells) (n : ℕ) (old new : ℕ → Bool)
    (same : (c : ℕ) → c < n → new c ≡ old c) where
  same_feed : (feed : Feed) → ((d output : ℕ) → feed ≡ Pin d output → d < n)
      → feed_value word new feed ≡ feed_value word old feed
  same_feed Nothing lower = refl
  same_feed (Label k) lower = refl
  same_feed (Pin d output) lower = same d (lower d output refl)

  same_cell : (c : ℕ) (cell : ExCell) → c ≤ n → slice_get cells c ≡ Some cell
      → cell_value word new cell ≡ cell_value word old cell
  same_cell c cell le got =
      let e0 = same_feed cell.feed0 (λ d output e. omega (arith, before c 0 d output cell got e)) in
      let e1 = same_feed cell.feed1 (λ d output e. omega (arith, before c 1 d output cell got e)) in
      let e2 = same_feed cell.feed2 (λ d output e. omega (arith, before c 2 d output cell got e)) in
      ap (λ (x : Bool). value_of cell.kind x (feed_value word new cell.feed1) (feed_value word new cell.feed2)) e0
      ∙ (ap (λ (x : Bool). value_of cell.kind (feed_value word old cell.feed0) x (feed_value word new cell.feed2)) e1
      ∙ ap (λ (x : Bool). value_of cell.kind (feed_value word old cell.feed0) (feed_value word old cell.feed1) x) e2)

  pub fits_more : (here : ExCell) → slice_get cells n ≡ Some here → new n ≡ cell_value word old here
      → FitsBelow n cells word old → FitsBelow (n + 1) cells word new
  fits_more here got is fits c cell lt at = elim (cases_eq c n) [
    | inl e ↦
        let cell_is : here ≡ cell = same_Some here cell (sym got ∙ (ap (slice_get cells) (sym e) ∙ at)) in
        ap new e ∙ (is ∙ (ap (λ (x : ExCell). cell_value word old x) cell_is ∙ sym (same_cell c cell (omega arith) at)))
    | inr ne ↦ same c (omega arith) ∙ (fits c cell (omega arith) at ∙ sym (same_cell c cell (omega arith) at))
  ]

-- in each lane the first cells have the values that their functions give
pub record AreLanes (n : ℕ) (cells : List ExCell) (words values : List ℕ) : Type 0 where
  pub long : length values ≡ n
  pub each : (l : ℕ) → l < 128 → FitsBelow n cells (in_lane l words) (lane_value l values)

pub lanes_more : (cells : List ExCell) (words values more : List ℕ) (n number : ℕ) (d : ExCell)
    → AreFedBefore cells → n < length cells →
    ((l : ℕ) → l < 128 → holds number l ≡ cell_value (in_lane l words) (lane_value l values) (get_or cells n d))
    → more ≡ values ++ number ∷ [] → AreLanes n cells words values → AreLanes (n + 1) cells words more
lanes_more cells words values more n number d before lt is made are =
    subst (AreLanes (n + 1) cells words) (sym made) (record {
      long = omega (arith, length-append values (number ∷ []), are.long);
      each = λ l lane.
          fits_more cells (in_lane l words) before n (lane_value l values) (lane_value l (values ++ number ∷ []))
          (λ c below. ap (λ k. holds k l) (get_or-append values (number ∷ []) 0 c (omega (arith, are.long))))
          (get_or cells n d) (slice_get-get_or cells n d lt)
          (ap (λ k. holds k l) (ap (λ i. get_or (values ++ number ∷ []) i 0) (sym are.long)
          ∙ get_or-append_seam values number [] 0) ∙ is l lane)
          (are.each l lane);
    })

pub lanes_all : (cells : List ExCell) (words values : List ℕ) (n : ℕ) → length cells ≤ n → AreLanes n cells words values
    → AreLaneValues cells words values
lanes_all cells words values n all are l lane c cell got = let within : c < length cells =
    slice_get_within cells c cell got in are.each l lane c cell (omega arith) got

-- ---- cells are fed from the row below, and stand by rising row

row_order : (cells : List ExCell) → IsNonDecreasingBy (λ cell. cell.row) cells → (c d : ℕ) (a b : ExCell)
    → slice_get cells c ≡ Some a → slice_get cells d ≡ Some b → c ≤ d → a.row ≤ b.row
row_order cells rising c d a b p q le =
    let within : d < length cells = slice_get_within cells d b q in
    let first : get_or cells c a ≡ a = get_or_from_slice_get cells c a a p in
    let second : get_or cells d a ≡ b = get_or_from_slice_get cells d b a q in
    let le_so : (get_or cells c a).row ≤ (get_or cells d a).row = rising c d a le within in
    omega (arith, le_so, ap (λ (x : ExCell). x.row) first, ap (λ (x : ExCell). x.row) second)

pub fed_before : (circuit : CircuitView) → KeepsFacts circuit → AreFedBefore circuit.cells
fed_before circuit ok c i d output cell got e =
    let below : IsOutputBelow circuit cell.row (record { cell = d; output = output }) =
    subst (IsFeedOf circuit cell.row) e ((ok.cells c cell got).each_feed i) in
    elim (cases_lt d c) [
      | inl lt ↦ lt
      | inr ge ↦ absurd (omega (
        arith,
        below.just_below,
        row_order circuit.cells ok.rising c d cell
            below.cell got below.cell_is ge,
      ))
    ]
