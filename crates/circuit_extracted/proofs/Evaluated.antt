-- The values of the first cells, and one more.
use Rattle.std.proofs.Common.{◌≡◌, ℕ, ◌+◌, ◌<◌, ◌≤◌, Bool, false, List, [], ◌∷◌, ◌++◌, length, get_or, Some, refl, sym}
use Rattle.std.proofs.Common.{ap, subst, ◌∙◌, arith, inl, inr}
use Rattle.std.specs.Prelude.{slice_get}
use Rattle.std.specs.List.Sorted.{IsNonDecreasingBy}
use Rattle.std.proofs.Math.ListN.{get_or-append, length-append}
use Rattle.std.proofs.Math.Seq.{get_or-append_seam}
use Rattle.std.proofs.lemmas.Bool.{cases_eq, cases_lt}
use Rattle.std.proofs.lemmas.Option.{same_Some, slice_get_within, slice_get-get_or, get_or_from_slice_get}
use Rattle.circuit.specs.Function.{value_of}
use Rattle.circuit_extracted.specs.declared.cells.Feed.{Feed}
use Rattle.circuit_extracted.specs.declared.cells.Feed.TheVariants.{Nothing, Pin, Label}
use Rattle.circuit_extracted.specs.declared.cells.ExCell.{ExCell}
use Rattle.circuit_extracted.specs.Circuits.{CircuitView, feed_at, IsFeedOf, IsOutputBelow, KeepsFacts}
use Rattle.circuit_extracted.specs.Answers.{feed_value, cell_value, values_at, IsAnswer}
use Rattle.circuit.specs.Gates.{valuation}
use Rattle.circuit_extracted.specs.Code.Evaluation.{AreFedBefore, AreValues}

pub record ValuesBelow (n : ℕ) (cells : List ExCell) (word values : List Bool) : Type 0 where
  pub long : length values ≡ n
  pub each : (c : ℕ) (cell : ExCell) → c < n → slice_get cells c ≡ Some cell
      → valuation values c ≡ cell_value word (valuation values) cell

module _ (cells : List ExCell) (word : List Bool) (before : AreFedBefore cells) (n : ℕ) (values : List Bool) (b : Bool)
    (are : ValuesBelow n cells word values) where
  old : (c : ℕ) → c < n → valuation (values ++ b ∷ []) c ≡ valuation values c
  old c lt = get_or-append values (b ∷ []) false c (omega (arith, are.long))

  -- one value more changes no feed from a cell before
  same_feed : (feed : Feed) → ((d output : ℕ) → feed ≡ Pin d output → d < n)
      → feed_value word (valuation (values ++ b ∷ [])) feed ≡ feed_value word (valuation values) feed
  same_feed Nothing lower = refl
  same_feed (Label k) lower = refl
  same_feed (Pin d output) lower = old d (lower d output refl)

  same_cell : (c : ℕ) (cell : ExCell) → c ≤ n → slice_get cells c ≡ Some cell
      → cell_value word (valuation (values ++ b ∷ [])) cell ≡ cell_value word (valuation values) cell
  same_cell c cell le got =
      let e0 = same_feed cell.feed0 (λ d output e. omega (arith, before c 0 d output cell got e)) in
      let e1 = same_feed cell.feed1 (λ d output e. omega (arith, before c 1 d output cell got e)) in
      let e2 = same_feed cell.feed2 (λ d output e. omega (arith, before c 2 d output cell got e)) in
      ap (λ (x : Bool). value_of cell.kind x (feed_value word (valuation (values ++ b ∷ [])) cell.feed1)
      (feed_value word (valuation (values ++ b ∷ [])) cell.feed2)) e0
      ∙ (ap (λ (x : Bool). value_of cell.kind (feed_value word (valuation values) cell.feed0) x
      (feed_value word (valuation (values ++ b ∷ [])) cell.feed2)) e1
      ∙ ap (λ (x : Bool). value_of cell.kind (feed_value word (valuation values) cell.feed0)
      (feed_value word (valuation values) cell.feed1) x) e2)

  values_more : (here : ExCell) → slice_get cells n ≡ Some here → b ≡ cell_value word (valuation values) here
      → ValuesBelow (n + 1) cells word (values ++ b ∷ [])
  values_more here got is = record {
    long = omega (arith, length-append values (b ∷ []), are.long);
    each = λ c cell lt at. elim (cases_eq c n) [
      | inl e ↦
          let last : valuation (values ++ b ∷ []) c ≡ b = ap (valuation (values ++ b ∷ [])) (e ∙ sym are.long)
          ∙ get_or-append_seam values b [] false in
          let same : here ≡ cell = same_Some here cell (sym got ∙ (ap (slice_get cells) (sym e) ∙ at)) in
          last ∙ (is ∙ (ap (λ (x : ExCell). cell_value word (valuation values) x) same
          ∙ sym (same_cell c cell (omega arith) at)))
      | inr ne ↦ old c (omega arith) ∙ (are.each c cell (omega arith) at ∙ sym (same_cell c cell (omega arith) at))
    ];
  }

  pub values_read : (d : ExCell) → n < length cells → b ≡ cell_value word (valuation values) (get_or cells n d)
      → ValuesBelow (n + 1) cells word (values ++ b ∷ [])
  values_read d lt is = values_more (get_or cells n d) (slice_get-get_or cells n d lt) is

pub values_all : (cells : List ExCell) (word : List Bool) (n : ℕ) (values : List Bool) → length cells ≤ n
    → ValuesBelow n cells word values → AreValues cells word values
values_all cells word n values all are c cell got = let lt : c < length cells =
    slice_get_within cells c cell got in are.each c cell (omega arith) got

-- ---- cells are fed from the row below, and stand by rising row

row_order : (cells : List ExCell) → IsNonDecreasingBy (λ cell. cell.row) cells → (c d : ℕ) (a b : ExCell)
    → slice_get cells c ≡ Some a → slice_get cells d ≡ Some b → c ≤ d → a.row ≤ b.row
row_order cells rising c d a b p q le =
    let within : d < length cells = slice_get_within cells d b q in
    let first : get_or cells c a ≡ a = get_or_from_slice_get cells c a a p in
    let second : get_or cells d a ≡ b = get_or_from_slice_get cells d b a q in
    let le_so : (get_or cells c a).row ≤ (get_or cells d a).row = rising c d a le within in
    omega (arith, le_so, ap (λ (x : ExCell). x.row) first, ap (λ (x : ExCell). x.row) second)

fed_from : (circuit : CircuitView) (row : ℕ) (feed : Feed) (d output : ℕ) → IsFeedOf circuit row feed
    → feed ≡ Pin d output → IsOutputBelow circuit row (record { cell = d; output = output })
fed_from circuit row feed d output is e = subst (IsFeedOf circuit row) e is

pub fed_before : (circuit : CircuitView) → KeepsFacts circuit → AreFedBefore circuit.cells
fed_before circuit ok c i d output cell got e =
    let below : IsOutputBelow circuit cell.row (record { cell = d; output = output }) = fed_from circuit cell.row
    (feed_at cell i) d output ((ok.cells c cell got).each_feed i) e in
    elim (cases_lt d c) [
      | inl lt ↦ lt
      | inr ge ↦ absurd (omega (
        arith,
        below.just_below,
        row_order circuit.cells ok.rising c d cell
            below.cell got below.cell_is ge,
      ))
    ]

-- the values at the outputs are the answer
pub evaluated : (circuit : CircuitView) (word values answer : List Bool) → AreValues circuit.cells word values
    → answer ≡ values_at circuit.outputs (valuation values) → IsAnswer circuit word answer
evaluated circuit word values answer are is = record { value = valuation values; fits = are; answer_is = is }
