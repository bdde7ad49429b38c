-- Searches number by number.
use Rattle.std.proofs.Common.{◌≡◌, ℕ, suc, ◌+◌, ◌<◌, ◌≤◌, Bool, true, false, List, [], ◌∷◌, ◌++◌, length, Option, Some}
use Rattle.std.proofs.Common.{None, sym, ap, subst, ◌∙◌, arith, inl, inr}
use Rattle.std.specs.Prelude.{slice_index}
use Rattle.std.proofs.Math.ListN.{get_or-append, length-append}
use Rattle.std.proofs.Math.Seq.{get_or-append_seam}
use Rattle.std.proofs.lemmas.Bool.{cases_eq, cases_lt}
use Rattle.std.proofs.lemmas.Option.{slice_get_within}
use Rattle.geom.specs.declared.shapes.Shape.{Shape}
use Rattle.layout_rules.specs.Reports.{ReportsNone, ReportsNoneAt, Alone, Afterwards, IsFirstReport, PassTogether}
use Rattle.layout_rules.proofs.ReportLaws.{Alone-first, Alone-none, Afterwards-first, Afterwards-second}
use Rattle.layout_rules.proofs.ReportLaws.{Afterwards-none}
use Rattle.shape_extract.specs.declared.search.Report.{Report}
use Rattle.shape_extract.specs.Searches.{SaysWhether, Finds, FindsAt, AreThose}

abbrev pub NoneBelow : (ℕ → ℕ → Type 0) → ℕ → Type 0
NoneBelow reported n = (a : ℕ) → a < n → ReportsNoneAt reported a

pub none_more : (reported : ℕ → ℕ → Type 0) (n : ℕ) → NoneBelow reported n → ReportsNoneAt reported n
    → NoneBelow reported (n + 1)
none_more reported n none here a lt = elim (cases_eq a n) [
  | inl e ↦ rw e here
  | inr ne ↦ none a (omega arith)
]

pub none_all : (reported : ℕ → ℕ → Type 0) (count n : ℕ) → NoneBelow reported n → count ≤ n
    → ((a b : ℕ) → reported a b → a < count) → ReportsNone reported
none_all reported count n none all within a b h = let lt : a < count = within a b h in none a (omega arith) b h

-- of the numbers below n, these are those of which it holds, rising
pub record AreThoseBelow (n : ℕ) (holds : ℕ → Type 0) (numbers : List ℕ) : Type 0 where
  pub each : (p : ℕ) → p < length numbers → holds (slice_index numbers p)
  pub complete : (m : ℕ) → m < n → holds m → (p : ℕ) × ((p < length numbers) × (slice_index numbers p ≡ m))
  pub below : (p : ℕ) → p < length numbers → slice_index numbers p < n
  pub rising : (p q : ℕ) → p < q → q < length numbers → slice_index numbers p < slice_index numbers q

pub those_more : (holds : ℕ → Type 0) (n : ℕ) (numbers : List ℕ) → AreThoseBelow n holds numbers → holds n
    → AreThoseBelow (n + 1) holds (numbers ++ (n ∷ []))
those_more holds n numbers are h =
    let long : length (numbers ++ (n ∷ [])) ≡ suc (length numbers) = omega (arith, length-append numbers (n ∷ [])) in
    let last : slice_index (numbers ++ (n ∷ [])) (length numbers) ≡ n = get_or-append_seam numbers n [] 0 in
    let old : (p : ℕ) → p < length numbers → slice_index (numbers ++ (n ∷ [])) p ≡ slice_index numbers p =
    λ p lp. get_or-append numbers (n ∷ []) 0 p lp in
    let at : (p : ℕ) → p ≡ length numbers → slice_index (numbers ++ (n ∷ [])) p ≡ n =
    λ p e. ap (slice_index (numbers ++ (n ∷ []))) e ∙ last in
    record {
      each = λ p lp. elim (cases_lt p (length numbers)) [
        | inl lt ↦ subst holds (sym (old p lt)) (are.each p lt)
        | inr ge ↦ subst holds (sym (at p (omega arith))) h
      ];
      complete = λ m lm holds_so. elim (cases_eq m n) [
        | inl e ↦ (length numbers, (omega arith, last ∙ sym e))
        | inr ne ↦ let p = are.complete m (omega arith) holds_so in (p.0, (omega (arith, p.1.0), old p.0 p.1.0 ∙ p.1.1))
      ];
      below = λ p lp. elim (cases_lt p (length numbers)) [
        | inl lt ↦ omega (arith, old p lt, are.below p lt)
        | inr ge ↦ omega (arith, at p (omega arith))
      ];
      rising = λ p q lt lq. elim (cases_lt q (length numbers)) [
        | inl less ↦ omega (arith, old p (omega arith), old q less, are.rising p q lt less)
        | inr more ↦ let pl : p < length numbers = omega arith in omega
            (arith, at q (omega arith), old p pl, are.below p pl)
      ];
    }

pub those_same : (holds : ℕ → Type 0) (n : ℕ) (numbers : List ℕ) → AreThoseBelow n holds numbers → (holds n → ⊥)
    → AreThoseBelow (n + 1) holds numbers
those_same holds n numbers are not_so = record {
  each = are.each;
  complete = λ m lm h. elim (cases_eq m n) [
    | inl e ↦ absurd
        (not_so (subst holds e h))
    | inr ne ↦ are.complete m (omega arith) h
  ];
  below = λ p lp. omega (arith, are.below p lp);
  rising = are.rising;
}

pub those_all : (holds : ℕ → Type 0) (count n : ℕ) (numbers : List ℕ) → AreThoseBelow n holds numbers → count ≤ n
    → ((m : ℕ) → holds m → m < count) → AreThose holds numbers
those_all holds count n numbers are all within = record {
  each = are.each;
  complete = λ m h. (let lt : m < count = within m h in are.complete m (omega arith) h);
  rising = are.rising;
}

-- a decided fact, by its answer
pub said_true : (answer : Bool) (fact : Type 0) → SaysWhether answer fact → answer ≡ true → fact
said_true true fact says e = says
said_true false fact says e = absurd cc

pub said_false : (answer : Bool) (fact : Type 0) → SaysWhether answer fact → answer ≡ false → fact → ⊥
said_false true fact says e = absurd cc
said_false false fact says e = says

-- ---- shapes that pass a test together

pub together_within : (test : Shape → Shape → Bool) (shapes : List Shape) (a b : ℕ)
    → PassTogether test shapes a b → b < length shapes
together_within test shapes a b pass = slice_get_within shapes b pass.second pass.second_is

-- ---- rules from their parts

-- a fault of one number, decided
pub alone_yes : (fault : ℕ → Type 0) (a : ℕ) → fault a → FindsAt (Alone fault) a (Some a)
alone_yes fault a h = Alone-first fault a h

pub alone_no : (fault : ℕ → Type 0) (a : ℕ) → (fault a → ⊥) → FindsAt (Alone fault) a None
alone_no fault a h = Alone-none fault a h

-- the second search counts where the first reports nothing
pub after_none : (first second : ℕ → ℕ → Type 0) (found : Option Report) → ReportsNone first → Finds second found
    → Finds (Afterwards first second) found
after_none first second None none finds = Afterwards-none first second none finds
after_none first second (Some r) none finds = Afterwards-second first second r.first r.second none finds

pub after_some : (first second : ℕ → ℕ → Type 0) (r : Report) → IsFirstReport first r.first r.second
    → Finds (Afterwards first second) (Some r)
after_some first second r finds = Afterwards-first first second r.first r.second finds

-- rising numbers don't fall
pub not_falling : (found : List ℕ)
    → ((p q : ℕ) → p < q → q < length found → slice_index found p < slice_index found q)
    → (p k : ℕ) → p ≤ k → k < length found → slice_index found p ≤ slice_index found k
not_falling found rising p k le lt = elim (cases_eq p k) [
  | inl e ↦ (let same : slice_index found p ≡ slice_index found k = ap (slice_index found) e in omega arith)
  | inr ne ↦ omega (arith, rising p k (omega arith) lt)
]
