-- Of equal shapes the least number stands for all.
use Rattle.std.proofs.Common.{◌≡◌, ℕ, zero, suc, ◌+◌, ◌<◌, ◌≤◌, List, [], ◌∷◌, ◌++◌, length, refl, sym}
use Rattle.std.proofs.Common.{Some, ap, subst, ◌∙◌, arith, inl, inr}
use Rattle.std.specs.Prelude.{All, Option, slice_get, slice_index}
use Rattle.std.proofs.Math.ListN.{get_or-append, length-append}
use Rattle.std.proofs.Math.Seq.{get_or-append_seam}
use Rattle.std.proofs.lemmas.Bool.{cases_eq, cases_lt}
use Rattle.std.proofs.lemmas.Grind.{get_or_default_zero}
use Rattle.geom.specs.Near.{AreRectsAt}
use Rattle.geom.specs.Rectangle.{Rectangle}
use Rattle.geom.specs.declared.shapes.Shape.{Shape}
use Rattle.shape_extract.specs.Distinct.{AreAt, StandsFor, ArePlaces, kinds_at, with_first}
use Rattle.shape_extract.specs.Code.DistinctShapes.{AreLeast, AreOwn}
use Rattle.shape_extract.specs.Distinct.{IsDistinct}
use Rattle.shape_extract.specs.Planes.{AreNamed}
use Rattle.shape_extract.proofs.Each.{item_at}
use Rattle.shape_extract.proofs.LeastHeads.{own_first}

-- ---- the shapes of numbers

pub record AreAtTo (n : ℕ) (shapes : List Shape) (numbers : List ℕ) (some : List Shape) : Type 0 where
  pub long : length some ≡ n
  pub each : (k : ℕ) → k < n → slice_get some k ≡ slice_get shapes (slice_index numbers k)

first_got : (shapes : List Shape) (n : ℕ) (ns : List ℕ) (s : Shape) → slice_get shapes n ≡ Some s
    → kinds_at shapes (n ∷ ns) ≡ s ∷ kinds_at shapes ns
unfolding kinds_at
first_got shapes n ns s is = ap (λ (got : Option Shape). with_first got (kinds_at shapes ns)) is

pub kinds_are_at : (shapes : List Shape) (numbers : List ℕ)
    → ((k : ℕ) → k < length numbers → slice_index numbers k < length shapes)
    → AreAt shapes numbers (kinds_at shapes numbers)
unfolding kinds_at
kinds_are_at shapes [] within = record { long = refl; each = λ k lt. absurd (omega arith) }
kinds_are_at shapes (n ∷ ns) within =
    let got : (s : Shape) × (slice_get shapes n ≡ Some s) = item_at shapes n (within 0 (omega arith)) in
    let rest : AreAt shapes ns (kinds_at shapes ns) = kinds_are_at shapes ns (λ k lt. within (suc k) (omega arith)) in
    rw (first_got shapes n ns got.0 got.1) (more got.0 got.1 rest)
  where
    more : (s : Shape) → slice_get shapes n ≡ Some s → AreAt shapes ns (kinds_at shapes ns)
        → AreAt shapes (n ∷ ns) (s ∷ kinds_at shapes ns)
    more s is rest = record { long = omega (arith, rest.long); each = each_so }
      where
        each_so : (k : ℕ) → k < length (n ∷ ns)
            → slice_get (s ∷ kinds_at shapes ns) k ≡ slice_get shapes (slice_index (n ∷ ns) k)
        each_so zero lt = sym is
        each_so (suc k) lt = rest.each k (omega arith)

-- the rectangles of the shapes of the numbers at some places are those of the shapes at the places
pub rects_at_places : (shapes : List Shape) (numbers places named : List ℕ) (rects : List Rectangle)
    → ((k : ℕ) → k < length numbers → slice_index numbers k < length shapes)
    → All (λ p. p < length (kinds_at shapes numbers)) places → AreNamed numbers places named
    → AreRectsAt shapes named rects → AreRectsAt (kinds_at shapes numbers) places rects
rects_at_places shapes numbers places named rects below within are at =
    let all : AreAt shapes numbers (kinds_at shapes numbers) = kinds_are_at shapes numbers below in
    record {
      long = at.long ∙ are.long;
      each = λ k s lt is.
          let place : slice_index places k < length numbers = omega (arith, all.long, within k 0 lt) in
          at.each k s (omega (arith, are.long)) (ap (slice_get shapes) (are.each k lt place)
          ∙ (sym (all.each (slice_index places k) place) ∙ is));
    }

-- and their numbers are those of shapes
pub named_within : (shapes : List Shape) (numbers places named : List ℕ)
    → ((k : ℕ) → k < length numbers → slice_index numbers k < length shapes)
    → All (λ p. p < length (kinds_at shapes numbers)) places → AreNamed numbers places named
    → All (λ n. n < length shapes) named
named_within shapes numbers places named below within are k d lt =
    let lk : k < length places = omega (arith, are.long) in
    let place : slice_index places k < length numbers = omega
    (arith, (kinds_are_at shapes numbers below).long, within k 0 lk) in
    omega (
      arith,
      get_or_default_zero named k d lt,
      are.each k lk place,
      below (slice_index places k) place,
    )

-- ---- what stands for a shape

-- of the shapes below n each has one that stands for it
pub record PlacesTo (n : ℕ) (shapes : List Shape) (numbers places : List ℕ) : Type 0 where
  pub below : (k : ℕ) → k < length numbers → slice_index numbers k < n
  pub rising : (j k : ℕ) → j < k → k < length numbers → slice_index numbers j < slice_index numbers k
  pub own : (k : ℕ) → k < length numbers → slice_index places (slice_index numbers k) ≡ k
  pub few : length numbers ≤ n
  pub long : length places ≡ n
  pub each : (m : ℕ) → m < n → StandsFor shapes numbers m (slice_index places m)

module _ (n : ℕ) (shapes : List Shape) (numbers places : List ℕ) (are : PlacesTo n shapes numbers places) where
  one_more : (xs : List ℕ) (x : ℕ) → length (xs ++ x ∷ []) ≡ suc (length xs)
  one_more xs x = omega (arith, length-append xs (x ∷ []))

  before : (xs : List ℕ) (x k : ℕ) → k < length xs → slice_index (xs ++ x ∷ []) k ≡ slice_index xs k
  before xs x k lt = get_or-append xs (x ∷ []) 0 k lt

  last : (xs : List ℕ) (x k : ℕ) → k ≡ length xs → slice_index (xs ++ x ∷ []) k ≡ x
  last xs x k e = ap (slice_index (xs ++ x ∷ [])) e ∙ get_or-append_seam xs x [] 0

  -- it stands in among more numbers too
  still : (m place x : ℕ) → StandsFor shapes numbers m place → StandsFor shapes (numbers ++ x ∷ []) m place
  still m place x s =
      let e : slice_index (numbers ++ x ∷ []) place ≡ slice_index numbers place = before numbers x place s.within in
      record {
        within = omega (arith, one_more numbers x, s.within);
        not_above = omega (arith, s.not_above);
        alike = ap (slice_get shapes) e ∙ s.alike;
      }

  -- shape n goes where one below went that is equal
  pub place_shared : (head : ℕ) → head < n → slice_get shapes head ≡ slice_get shapes n
      → PlacesTo (n + 1) shapes numbers (places ++ slice_index places head ∷ [])
  place_shared head less same = record {
    below = λ k lt. omega (arith, are.below k lt);
    rising = are.rising;
    own = λ k lt. before places (slice_index places head) (slice_index numbers k)
        (omega (arith, are.below k lt, are.long)) ∙ are.own k lt;
    few = omega (arith, are.few);
    long = omega (arith, one_more places (slice_index places head), are.long);
    each = λ m lt. elim (cases_eq m n) [
      | inl e ↦
          let s : StandsFor shapes numbers head (slice_index places head) = are.each head less in
          let here : StandsFor shapes numbers m (slice_index places head) = record {
            within = s.within;
            not_above = omega (arith, s.not_above);
            alike = s.alike ∙ (same ∙ ap (slice_get shapes) (sym e));
          } in
          subst (StandsFor shapes numbers m)
          (sym (last places (slice_index places head) m (omega (arith, are.long)))) here
      | inr ne ↦ subst (StandsFor shapes numbers m)
          (sym (before places (slice_index places head) m (omega (arith, are.long)))) (are.each m (omega arith))
    ];
  }

  -- shape n stands for itself
  pub place_own : PlacesTo (n + 1) shapes (numbers ++ n ∷ []) (places ++ length numbers ∷ [])
  place_own = record {
    below = λ k lt. elim (cases_lt k (length numbers)) [
      | inl old ↦ omega (arith, before numbers n k old, are.below k old)
      | inr new ↦ omega (arith, last numbers n k (omega (arith, one_more numbers n)))
    ];
    rising = λ j k less lt. elim (cases_lt k (length numbers)) [
      | inl old ↦ (let jl : j < length numbers = omega arith in
          omega (arith, before numbers n k old, before numbers n j jl, are.rising j k less old))
      | inr new ↦ (let jl : j < length numbers = omega (arith, one_more numbers n) in
          omega (arith, last numbers n k (omega (arith, one_more numbers n)), before numbers n j jl, are.below j jl))
    ];
    own = λ k lt. elim (cases_lt k (length numbers)) [
      | inl old ↦ ap (slice_index (places ++ length numbers ∷ [])) (before numbers n k old)
          ∙ (before places (length numbers) (slice_index numbers k) (omega (arith, are.below k old, are.long))
          ∙ are.own k old)
      | inr new ↦
          let here : k ≡ length numbers = omega (arith, one_more numbers n) in
          ap (slice_index (places ++ length numbers ∷ [])) (last numbers n k here)
          ∙ (last places (length numbers) n (omega (arith, are.long)) ∙ sym here)
    ];
    few = omega (arith, one_more numbers n, are.few);
    long = omega (arith, one_more places (length numbers), are.long);
    each = λ m lt. elim (cases_eq m n) [
      | inl e ↦
          let own : slice_index (numbers ++ n ∷ []) (length numbers) ≡ n = last numbers n (length numbers) refl in
          let here : StandsFor shapes (numbers ++ n ∷ []) m (length numbers) = record {
            within = omega (arith, one_more numbers n);
            not_above = omega arith;
            alike = ap (slice_get shapes) (own ∙ sym e);
          } in
          subst (StandsFor shapes (numbers ++ n ∷ []) m)
          (sym (last places (length numbers) m (omega (arith, are.long)))) here
      | inr ne ↦ subst (StandsFor shapes (numbers ++ n ∷ []) m)
          (sym (before places (length numbers) m (omega (arith, are.long))))
          (still m (slice_index places m) n (are.each m (omega arith)))
    ];
  }

pub distinct_from : (shapes : List Shape) (heads numbers places : List ℕ)
    → AreLeast shapes heads → AreOwn heads numbers → ArePlaces shapes numbers places
    → IsDistinct shapes numbers (kinds_at shapes numbers)
distinct_from shapes heads numbers places least own are = record {
  those = kinds_are_at shapes numbers are.below;
  within = are.below;
  rising = are.rising;
  first = λ k lt. own_first shapes heads (slice_index numbers k) least (are.below k lt) (own k lt);
  all = λ n lt. (let s : StandsFor shapes numbers n (slice_index places n) = are.each n lt in record {
    place = slice_index places n;
    within = s.within;
    not_above = s.not_above;
    alike = s.alike;
  });
}
