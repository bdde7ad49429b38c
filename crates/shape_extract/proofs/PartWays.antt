-- The walk along the lines adds up how far the excitation has run.
use Rattle.std.proofs.Common.{◌≡◌, ◌≢◌, ℕ, suc, ◌+◌, ◌^◌, ◌<◌, ◌≤◌, inl, inr, true, false}
use Rattle.std.proofs.Common.{List, [], ◌∷◌, length}
use Rattle.std.proofs.Common.{set, Option, Some, None, refl, sym, ap, subst, ◌∙◌, arith, eqb}
use Rattle.std.specs.Prelude.{slice_get, slice_index, Contains, ◌==◌, if◌then◌else◌}
use Rattle.std.specs.List.{AllByRecursion, IsDistinct, list_any}
use Rattle.std.proofs.lemmas.Grind.{get_or_default_zero}
use Rattle.std.proofs.lemmas.Map.Steps.{length-le_from_distinct_below}
use Rattle.std.proofs.lemmas.Map.Views.{Contains-from_any}
use Rattle.std.proofs.lemmas.List.{length-set}
use Rattle.std.proofs.lemmas.Bool.{cases_eq, eqb-true, ne_eqb}
use Rattle.geom.specs.declared.shapes.Shape.{Shape}
use Rattle.geom.specs.Rectangle.{width}
use Rattle.layout_rules.specs.declared.layers.TheConstants.{BAR, LINK, START}
use Rattle.layout_rules.specs.LengthRule.{longer_side}
use Rattle.layout_rules.specs.Reports.{ReportsNone, Alone}
use Rattle.layout_rules.specs.ExcitationLines.{IsPart, Before}
use Rattle.layout_rules.specs.ExcitationRule.{IsCutOff, AreLaidOut}
use Rattle.layout_rules.specs.LinePlaces.{way_through, way_at, ComesTo}
use Rattle.layout_rules.proofs.LinePaths.{path_from_chain}
use Rattle.shape_extract.specs.Code.Lines.{AreWalked}
use Rattle.shape_extract.specs.Code.LineWalk.{IsLineWalk}
use Rattle.shape_extract.specs.Code.Ways.{IsWayTo, HasWay, AreWays, AreWaysBelow}
use Rattle.shape_extract.proofs.NetWalk.{at_set, off_set}

-- ---- no more shapes are reached than there are

apart_from : (x : ℕ) (xs : List ℕ) → ((q : ℕ) → q < length xs → x ≢ slice_index xs q)
    → AllByRecursion (λ y. eqb x y ≡ false) xs
apart_from x [] apart = tt
apart_from x (y ∷ ys) apart =
    (ne_eqb x y (apart 0 (omega arith)), apart_from x ys (λ q lt. apart (suc q) (omega arith)))

distinct : (xs : List ℕ) → ((p q : ℕ) → p < q → q < length xs → slice_index xs p ≢ slice_index xs q)
    → IsDistinct eqb xs
unfolding IsDistinct
distinct [] once = tt
distinct (x ∷ xs) once = (
  apart_from x xs (λ q lt. once 0 (suc q) (omega arith) (omega arith)),
  distinct xs (λ p q below lt. once (suc p) (suc q) (omega arith) (omega arith)),
)

pub few_reached : (shapes : List Shape) (before order : List ℕ) → IsLineWalk shapes before order
    → length order ≤ length shapes
few_reached shapes before order walk =
    length-le_from_distinct_below order (length shapes) (distinct order walk.once) below
  where
    below : (q : ℕ) → list_any (eqb q) order ≡ true → q < length shapes
    below q found =
        let at : Contains order q = Contains-from_any (λ (x y : ℕ). eqb-true x y) q order found in
        let same : slice_index order at.0 ≡ q = sym (get_or_default_zero order at.0 q at.1) ∙ at.2 in
        omega (arith, walk.within at.0 at.1)

-- ---- ways

-- nothing is counted of a start
pub start_way : (shapes : List Shape) (i : ℕ) → IsPart shapes START i → way_at shapes i ≡ 0
start_way shapes i part =
    ap (λ (o : Option Shape). elim o as (λ (x : Option Shape). ℕ) [ None ↦ 0 | Some s ↦ way_through s ]) part.shape_is
    ∙ ap (λ (n : ℕ). (if n == BAR then width part.shape.rect else
    (if n == LINK then longer_side part.shape.rect else 0))) part.datatype_is

-- how ways add up from part to part
abbrev pub BeginAtZero : List Shape → Type 0
BeginAtZero shapes = AreLaidOut shapes → (a b : ℕ) → IsPart shapes START a → Before shapes a b → ComesTo shapes a b 0

abbrev pub AddUp : List Shape → Type 0
AddUp shapes = (a b c distance : ℕ) → AreLaidOut shapes → ReportsNone (Alone (IsCutOff shapes))
    → ComesTo shapes a b distance → Before shapes b c → ComesTo shapes b c (distance + way_at shapes b)

pub none_below : (shapes : List Shape) (before order ways : List ℕ) → length ways ≡ length shapes
    → ((n : ℕ) → slice_index ways n ≡ 0) → AreWaysBelow 0 shapes before order ways
none_below shapes before order ways long none = record {
  long = long;
  come = λ p lt. absurd (omega arith);
  small = λ n. omega (arith, none n);
}

module _ (shapes : List Shape) (before order : List ℕ) (lines : AreLaidOut shapes)
    (cut : ReportsNone (Alone (IsCutOff shapes))) (walk : IsLineWalk shapes before order)
    (walked : AreWalked shapes before) where
  module _ (zero_first : BeginAtZero shapes) (next : AddUp shapes) (ways : List ℕ) (i way : ℕ)
      (are : AreWaysBelow i shapes before order ways) (lt : i < length order) where
    -- from the part before it
    from_before : (from : ℕ) → from ≡ slice_index before (slice_index order i) → HasWay shapes before ways from
        → Before shapes from (slice_index order i)
        → way ≡ slice_index ways from + way_at shapes from
        → ComesTo shapes from (slice_index order i) way
    from_before from is (inl begins) onward way_is =
        let none : way ≡ 0 = omega (arith, way_is, begins.1, start_way shapes from begins.0) in
        subst (ComesTo shapes from (slice_index order i)) (sym none)
        (zero_first lines from (slice_index order i) begins.0 onward)
    from_before from is (inr comes) onward way_is =
        subst (ComesTo shapes from (slice_index order i)) (sym way_is)
        (next (slice_index before from) from (slice_index order i) (slice_index ways from) lines cut comes onward)

    comes_here : (IsPart shapes START (slice_index order i) → ⊥)
        → way ≡ slice_index ways (slice_index before (slice_index order i))
        + way_at shapes (slice_index before (slice_index order i))
        → ComesTo shapes (slice_index before (slice_index order i)) (slice_index order i) way
    comes_here other way_is = elim (walk.come i lt) [
      | inl start ↦ absurd (other start)
      | inr follows ↦ elim (walked.come (slice_index order i) (walk.reached i lt) (walk.within i lt)) [
        | inl start ↦ absurd (other start)
        | inr chain ↦
            from_before (slice_index before (slice_index order i)) refl
            (subst (HasWay shapes before ways) follows.number_is (are.come follows.earlier follows.is_earlier))
            (path_from_chain shapes lines cut (slice_index before (slice_index order i)) (slice_index order i) chain)
            way_is
      ]
    ]

    inside : slice_index order i < length ways
    inside = omega (arith, walk.within i lt, are.long)

    written : slice_index (set ways (slice_index order i) way) (slice_index order i) ≡ way
    written = at_set ways (slice_index order i) way (slice_index order i) refl inside

    here : IsWayTo shapes before ways (slice_index order i) way
        → HasWay shapes before (set ways (slice_index order i) way) (slice_index order i)
    here (inl begins) = inl (begins.0, written ∙ begins.1)
    here (inr comes) = inr (subst (ComesTo shapes (slice_index before (slice_index order i)) (slice_index order i))
        (sym written) (comes_here comes.0 comes.1))

    still : (n : ℕ) → n ≢ slice_index order i → HasWay shapes before ways n
        → HasWay shapes before (set ways (slice_index order i) way) n
    still n ne (inl begins) = inl (begins.0, off_set ways (slice_index order i) way n ne ∙ begins.1)
    still n ne (inr comes) = inr (subst (ComesTo shapes (slice_index before n) n)
        (sym (off_set ways (slice_index order i) way n ne)) comes)

    -- one part more has its way
    pub way_more : IsWayTo shapes before ways (slice_index order i) way
        → way < slice_index ways (slice_index before (slice_index order i)) + 2 ^ 64
        → AreWaysBelow (i + 1) shapes before order (set ways (slice_index order i) way)
    way_more is small = record {
      long = length-set ways (slice_index order i) way ∙ are.long;
      come = λ p below. elim (cases_eq p i) [
        | inl e ↦ rw e (here is)
        | inr ne ↦ still (slice_index order p) (walk.once p i (omega arith) lt) (are.come p (omega arith))
      ];
      small = λ n. elim (cases_eq n (slice_index order i)) [
        | inl e ↦ omega (
          arith,
          at_set ways (slice_index order i) way n e inside,
          are.small (slice_index before (slice_index order i)),
        )
        | inr ne ↦ omega (arith, off_set ways (slice_index order i) way n ne, are.small n)
      ];
    }

  pub ways_all : (ways : List ℕ) (n : ℕ) → AreWaysBelow n shapes before order ways → length order ≤ n
      → n < 2 ^ 32 → AreWays shapes before ways
  ways_all ways n are all few = record {
    long = are.long;
    come = λ k within reached. (
        let p = walk.placed k within reached in
        subst (HasWay shapes before ways) p.1.1 (are.come p.0 (omega (arith, p.1.0)))
        );
    small = λ k. omega (arith, are.small k);
  }

pub way_at_is : (shapes : List Shape) (i : ℕ) (s : Shape) → slice_get shapes i ≡ Some s
    → way_at shapes i ≡ way_through s
way_at_is shapes i s at =
    ap (λ (o : Option Shape). elim o as (λ (x : Option Shape). ℕ) [ None ↦ 0 | Some t ↦ way_through t ]) at
