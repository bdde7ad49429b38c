-- Going through the shapes in order, each takes the least number of its kind for its head.
use Rattle.std.proofs.Common.{◌≡◌, ◌≢◌, ℕ, ◌+◌, ◌-◌, ◌<◌, ◌≤◌, inl, inr, List, [], ◌∷◌, ◌++◌, length, Some}
use Rattle.std.proofs.Common.{sym, ap, subst, ◌∙◌, arith}
use Rattle.std.specs.Prelude.{slice_get, slice_index}
use Rattle.std.proofs.Math.ListN.{get_or-append, length-append}
use Rattle.std.proofs.Math.Seq.{get_or-append_seam}
use Rattle.std.proofs.lemmas.Bool.{cases_eq, cases_lt}
use Rattle.std.proofs.lemmas.Option.{same_Some, slice_get_within}
use Rattle.geom.specs.declared.shapes.Shape.{Shape}
use Rattle.shape_extract.specs.declared.distinct_shapes.Sided.{Sided}
use Rattle.shape_extract.specs.Distinct.{IsFirst}
use Rattle.shape_extract.specs.Code.DistinctShapes.{AreAlike, AreInOrder, AreHeads, IsLeastHead, GoesOn}
use Rattle.shape_extract.specs.Code.DistinctShapes.{AreLeast, AreOwn}

-- the head of the first of its kind is its own number
first_least : (shapes : List Shape) (heads : List ℕ) (n : ℕ) → AreHeads shapes heads → n < length shapes
    → IsFirst shapes n → IsLeastHead shapes heads n
first_least shapes heads n are lt first m within e = elim (cases_lt m n) [
  | inl less ↦ absurd (first m less e)
  | inr ge ↦ omega (arith, are.not_above n lt)
]

-- ---- all of them in order

-- the heads of the first n shapes in order are the least
pub record HeadsTo (n : ℕ) (shapes : List Shape) (order : List Sided) (heads : List ℕ) : Type 0 where
  pub are : AreHeads shapes heads
  pub least : (q : ℕ) (s : Sided) → q < n → slice_get order q ≡ Some s → IsLeastHead shapes heads s.number

module _ (shapes : List Shape) (order : List Sided) (in_order : AreInOrder shapes order) where
  pub heads_first : (heads : List ℕ) → AreHeads shapes heads → HeadsTo 1 shapes order heads
  heads_first heads are = record {
    are = are;
    least = λ q s lt is. first_least shapes heads s.number are (in_order.within q s is) (λ m less e. (
        let turn = in_order.all m (omega (arith, in_order.within q s is)) in
        let alike : AreAlike shapes s turn.sided = sym e ∙ ap (slice_get shapes) (sym turn.number_is) in
        let le : s.number ≤ turn.sided.number = in_order.rising q turn.place s turn.sided (omega arith) is turn.there
        alike in
        absurd (omega (arith, turn.number_is))));
  }

  pub goes_on : (heads : List ℕ) (place : ℕ) (s t : Sided) → HeadsTo place shapes order heads → 1 ≤ place
      → slice_get order (place - 1) ≡ Some s → slice_get order place ≡ Some t → GoesOn shapes heads s.number t.number
  goes_on heads place s t to from p q = record {
    least = to.least (place - 1) s (omega arith) p;
    first = λ ne m less e. (
        let turn = in_order.all m (omega (arith, in_order.within place t q)) in
        let x = turn.sided in
        let number : x.number ≡ m = turn.number_is in
        let alike : AreAlike shapes x t = ap (slice_get shapes) number ∙ e in
        elim (cases_lt turn.place place) [
          | inl upto ↦ elim (cases_eq turn.place (place - 1)) [
            | inl here ↦ (
                let same : x ≡ s = same_Some x s (sym turn.there ∙ (ap (slice_get order) here ∙ p)) in
                ne (ap (λ (y : Sided). slice_get shapes y.number) (sym same) ∙ alike))
            | inr other ↦ ne (in_order.together turn.place (place - 1) place x s t (omega arith) (omega arith)
                turn.there p q alike)
          ]
          | inr after ↦ (
              let le : t.number ≤ x.number = in_order.rising place turn.place t x after q turn.there (sym alike) in
              omega arith)
        ]);
  }

  pub heads_more : (heads new : List ℕ) (place : ℕ) (t : Sided) → HeadsTo place shapes order heads
      → slice_get order place ≡ Some t → AreHeads shapes new → IsLeastHead shapes new t.number
      → ((m : ℕ) → m ≢ t.number → IsLeastHead shapes heads m → IsLeastHead shapes new m)
      → HeadsTo (place + 1) shapes order new
  heads_more heads new place t to is are here others = record {
    are = are;
    least = λ q s lt at. elim (cases_eq q place) [
      | inl e ↦
          let same : t ≡ s = same_Some t s (sym is ∙ (ap (slice_get order) (sym e) ∙ at)) in
          rw same at here
      | inr ne ↦ elim (cases_eq s.number t.number) [
        | inl e ↦ subst (IsLeastHead shapes new) (sym e) here
        | inr other ↦ others s.number other (to.least q s (omega arith) at)
      ]
    ];
  }

  pub heads_all : (heads : List ℕ) (n : ℕ) → length order ≤ n → HeadsTo n shapes order heads → AreLeast shapes heads
  heads_all heads n all to m lt =
      let turn = in_order.all m lt in
      subst (IsLeastHead shapes heads) turn.number_is
      (to.least turn.place turn.sided (omega (arith, slice_get_within order turn.place turn.sided turn.there))
      turn.there)

-- ---- numbers that are their own heads

pub own_more : (heads numbers : List ℕ) (n : ℕ) → AreOwn heads numbers → slice_index heads n ≡ n
    → AreOwn heads (numbers ++ n ∷ [])
own_more heads numbers n own here k lt = elim (cases_lt k (length numbers)) [
  | inl old ↦
      let e : slice_index (numbers ++ n ∷ []) k ≡ slice_index numbers k = get_or-append numbers (n ∷ []) 0 k old in
      ap (slice_index heads) e ∙ (own k old ∙ sym e)
  | inr new ↦
      let at : k ≡ length numbers = omega (arith, length-append numbers (n ∷ [])) in
      let e : slice_index (numbers ++ n ∷ []) k ≡ n =
      ap (slice_index (numbers ++ n ∷ [])) at ∙ get_or-append_seam numbers n [] 0 in
      ap (slice_index heads) e ∙ (here ∙ sym e)
]

-- no earlier shape is equal to one whose head is its own and the least
pub own_first : (shapes : List Shape) (heads : List ℕ) (n : ℕ) → AreLeast shapes heads → n < length shapes
    → slice_index heads n ≡ n → IsFirst shapes n
own_first shapes heads n least lt own m less e =
    let low : slice_index heads n ≤ m = least n lt m (omega arith) e in
    omega arith
