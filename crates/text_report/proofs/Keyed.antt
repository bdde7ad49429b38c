-- Counts, and greatest numbers, for each row, item by item.
use Rattle.std.proofs.Common.{◌≡◌, ◌≢◌, ℕ, ◌+◌, ◌<◌, ◌≤◌, Bool, true, false, cond, List, [], ◌∷◌, ◌++◌, length}
use Rattle.std.proofs.Common.{get_or, take, set, Option, Some, None, refl, sym, ap, ◌∙◌, arith, inl, inr, eq-eqb}
use Rattle.std.proofs.Common.{append-nil}
use Rattle.std.specs.Prelude.{slice_index, count_by, filter, map, max}
use Rattle.std.proofs.lemmas.Bool.{cases_eq, ne_eqb}
use Rattle.std.specs.Option.{is_some}
use Rattle.std.proofs.lemmas.List.{take_all, take-append-le, map-append, get_or-set_same, get_or-set_other}
use Rattle.std.proofs.lemmas.List.Elements.{filter_more}
use Rattle.std.proofs.lemmas.List.Sums.{fold_push, count_by_more_yes, count_by_more_no}
use Rattle.std.proofs.Math.ListN.{length-set}
use Rattle.text_report.specs.Wires.{greatest}
use Rattle.text_report.specs.Code.Sources.{is_row, is_some_row}
use Rattle.text_report.specs.Code.Tables.{AreCounts, AreGreatest}

-- whether an item is of the row
abbrev pub of_row : {X : Type 0} → (X → Option ℕ) → ℕ → X → Bool
of_row row_of row item = is_row row (row_of item)

-- the counts of the first n items
pub record CountsBelow {X : Type 0} (n : ℕ) (row_of : X → Option ℕ) (items : List X) (counts : List ℕ) : Type 0 where
  pub at : (row : ℕ) → row < length counts → slice_index counts row ≡ count_by (of_row row_of row) (take n items)

-- the greatest numbers of the first n items
pub record MostBelow {X : Type 0} (n : ℕ) (row_of : X → Option ℕ) (number : X → ℕ) (items : List X) (most : List ℕ)
    : Type 0 where
  pub at : (row : ℕ) → row < length most
      → slice_index most row ≡ greatest (map number (filter (of_row row_of row) (take n items)))

pub counts_all : {X : Type 0} (n : ℕ) (row_of : X → Option ℕ) (items : List X) (counts : List ℕ) → length items ≤ n
    → CountsBelow n row_of items counts → AreCounts row_of items counts
counts_all n row_of items counts all below row lt =
    below.at row lt ∙ ap (count_by (of_row row_of row)) (take_all n items all)

pub most_all : {X : Type 0} (n : ℕ) (row_of : X → Option ℕ) (number : X → ℕ) (items : List X) (most : List ℕ)
    → length items ≤ n → MostBelow n row_of number items most → AreGreatest row_of number items most
most_all {X} n row_of number items most all below row lt =
    below.at row lt
    ∙ ap (λ (l : List X). greatest (map number (filter (of_row row_of row) l))) (take_all n items all)

-- whether there is a row, asked of a call's answer
pub some_row : (o : Option ℕ) → is_some o ≡ is_some_row o
some_row None = refl
some_row (Some row) = refl

-- a list that was written back into the place that it came from
pub written : (len : ℕ) (new rest : List ℕ) → length new ≡ len → take len (new ++ rest) ≡ new
written len new rest long = take-append-le len new rest (omega (arith, long)) ∙ take_all len new (omega (arith, long))

-- ---- one more item

module _ {X : Type 0} (test : X → Bool) (items : List X) (n : ℕ) (item d : X) (lt : n < length items)
    (is : item ≡ get_or items n d) where
  chosen : (b : Bool) → test item ≡ b
      → filter test (take (n + 1) items) ≡ filter test (take n items) ++ cond {A = List X} b (get_or items n d ∷ []) []
  chosen b e =
      filter_more test items n d lt
      ∙ ap (λ (v : Bool). filter test (take n items) ++ cond {A = List X} v (get_or items n d ∷ []) [])
      (ap test (sym is) ∙ e)

  pub chosen_same : test item ≡ false → filter test (take (n + 1) items) ≡ filter test (take n items)
  chosen_same e = chosen false e ∙ append-nil (filter test (take n items))

  pub chosen_more : test item ≡ true → filter test (take (n + 1) items) ≡ filter test (take n items) ++ item ∷ []
  chosen_more e = chosen true e ∙ ap (λ (x : X). filter test (take n items) ++ x ∷ []) (sym is)

  pub greatest_more : (number : X → ℕ) → test item ≡ true
      → greatest (map number (filter test (take (n + 1) items)))
      ≡ max (greatest (map number (filter test (take n items)))) (number item)
  greatest_more number e =
      ap (λ (l : List X). greatest (map number l)) (chosen_more e)
      ∙ (ap greatest (map-append number (filter test (take n items)) (item ∷ []))
      ∙ fold_push max 0 (map number (filter test (take n items))) (number item))

  pub greatest_same : (number : X → ℕ) → test item ≡ false
      → greatest (map number (filter test (take (n + 1) items)))
      ≡ greatest (map number (filter test (take n items)))
  greatest_same number e = ap (λ (l : List X). greatest (map number l)) (chosen_same e)

module _ {X : Type 0} (row_of : X → Option ℕ) (items : List X) (n : ℕ) (item d : X) (lt : n < length items)
    (is : item ≡ get_or items n d) where
  here : (row : ℕ) → of_row row_of row (get_or items n d) ≡ of_row row_of row item
  here row = ap (of_row row_of row) (sym is)

  is_here : (q row : ℕ) → row_of item ≡ Some q → row ≡ q → of_row row_of row item ≡ true
  is_here q row found same = ap (is_row row) found ∙ eq-eqb q row (sym same)

  not_here : (q row : ℕ) → row_of item ≡ Some q → row ≢ q → of_row row_of row item ≡ false
  not_here q row found other = ap (is_row row) found ∙ ne_eqb q row (λ e. other (sym e))

  nowhere : (row : ℕ) → row_of item ≡ None → of_row row_of row item ≡ false
  nowhere row none = ap (is_row row) none

  pub counts_same : (counts : List ℕ) → row_of item ≡ None → CountsBelow n row_of items counts
      → CountsBelow (n + 1) row_of items counts
  counts_same counts none below = record {
    at = λ row row_lt.
        below.at row row_lt ∙ sym (count_by_more_no (of_row row_of row) items n d lt (here row ∙ nowhere row none));
  }

  pub counts_more : (counts : List ℕ) (q v : ℕ) → row_of item ≡ Some q → q < length counts
      → v ≡ slice_index counts q + 1 → CountsBelow n row_of items counts
      → CountsBelow (n + 1) row_of items (set counts q v)
  counts_more counts q v found within v_is below = record {
    at = λ row row_lt. elim (cases_eq row q) [
      | inl same ↦
          let written : slice_index (set counts q v) row ≡ v = ap (λ (k : ℕ). get_or (set counts q v) k 0) same
          ∙ get_or-set_same counts q v 0 within in
          let old : slice_index counts row ≡ get_or counts q 0 = ap (λ (k : ℕ). get_or counts k 0) same in
          let more : count_by (of_row row_of row) (take (n + 1) items)
          ≡ count_by (of_row row_of row) (take n items) + 1 =
          count_by_more_yes (of_row row_of row) items n d lt (here row ∙ is_here q row found same) in
          omega (arith, below.at row (omega arith), more, written, old)
      | inr other ↦
          let kept : slice_index (set counts q v) row ≡ slice_index counts row =
          get_or-set_other counts q row v 0 other in
          let none : count_by (of_row row_of row) (take (n + 1) items)
          ≡ count_by (of_row row_of row) (take n items) =
          count_by_more_no (of_row row_of row) items n d lt (here row ∙ not_here q row found other) in
          omega (arith, below.at row (omega (arith, length-set counts q v)), kept, none)
    ];
  }

  pub most_same : (number : X → ℕ) (most : List ℕ) → row_of item ≡ None → MostBelow n row_of number items most
      → MostBelow (n + 1) row_of number items most
  most_same number most none below = record {
    at = λ row row_lt.
        below.at row row_lt ∙ sym (greatest_same (of_row row_of row) items n item d lt is number (nowhere row none));
  }

  pub most_more : (number : X → ℕ) (most : List ℕ) (q v : ℕ) → row_of item ≡ Some q → q < length most
      → v ≡ max (slice_index most q) (number item) → MostBelow n row_of number items most
      → MostBelow (n + 1) row_of number items (set most q v)
  most_more number most q v found within v_is below = record {
    at = λ row row_lt. elim (cases_eq row q) [
      | inl same ↦
          let written : slice_index (set most q v) row ≡ v = ap (λ (k : ℕ). get_or (set most q v) k 0) same
          ∙ get_or-set_same most q v 0 within in
          let old : slice_index most row ≡ get_or most q 0 = ap (λ (k : ℕ). get_or most k 0) same in
          let more : greatest (map number (filter (of_row row_of row) (take (n + 1) items)))
          ≡ max (greatest (map number (filter (of_row row_of row) (take n items)))) (number item) =
          greatest_more (of_row row_of row) items n item d lt is number (is_here q row found same) in
          omega (arith, below.at row (omega arith), more, written, old)
      | inr other ↦
          let kept : slice_index (set most q v) row ≡ slice_index most row = get_or-set_other most q row v 0 other in
          kept ∙ (below.at row (omega (arith, length-set most q v))
          ∙ sym (greatest_same (of_row row_of row) items n item d lt is number (not_here q row found other)))
    ];
  }
