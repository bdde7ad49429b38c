-- The shape or label of a number, its line, and what it means that there is none.
use Rattle.std.proofs.Common.{ℕ, zero, suc, ◌≡◌, ◌-◌, ◌<◌, ◌≤◌, List, [], ◌∷◌, ◌++◌, length, Option, Some, None}
use Rattle.std.proofs.Common.{Result, IfErr, refl, sym, ap, ◌∙◌, arith, inl, inr}
use Rattle.std.specs.Prelude.{slice_get}
use Rattle.std.specs.Result.{result_err}
use Rattle.std.proofs.lemmas.Option.{slice_get_within}
use Rattle.aq_base.specs.Output.{Output}
use Rattle.geom.specs.declared.shapes.Shape.{Shape}
use Rattle.geom.specs.declared.shapes.Label.{Label}
use Rattle.geom.specs.declared.shapes.Flat.{Flat}
use Rattle.geom.specs.FlatForm.{flat_count}
use Rattle.poly_cut.specs.declared.layout.WideLayout.{WideLayout}
use Rattle.poly_cut.specs.declared.numbered.Drawn.{Drawn}
use Rattle.poly_cut.specs.declared.numbered.Drawn.TheVariants as drawn
use Rattle.poly_cut.specs.FlatForm.{wide_flat}
use Rattle.poly_cut.specs.Conditions.{IsFlattenable}
use Rattle.poly_cut.specs.Counts.{wide_count, told}
use Rattle.poly_cut.specs.Numbers.{drawn_of, drawn_at}
use Rattle.text_report.specs.ShapeLines.{line_of, shape_line}
use Rattle.aqfp_top.specs.Printed.{TextPrints}
use Rattle.aqfp_top.specs.Shown.{HasLines}
use Rattle.aqfp_top.specs.Code.Printing.{PrintsText}
use Rattle.aqfp_top.specs.Code.Reporting.{drawn_line, IsUnfoundFault, IsNamingFault}
use Rattle.aqfp_top.specs.declared.fault.Fault.{Fault}
use Rattle.aqfp_top.specs.declared.fault.Fault.TheVariants.{NoShape, Memory}
use Rattle.aqfp_top.proofs.OutEnds.{each_text}
use Rattle.aqfp_top.proofs.Printing.{text_prints}

-- ---- one number

-- where there is one, the number is below their count, and its line is that of the number
pub record IsThere (flat : Flat) (number : ℕ) (found : Drawn) : Type 0 where
  pub below : number < flat_count flat
  pub line : drawn_line number found ≡ shape_line flat number

pub is_there : (flat : Flat) (number : ℕ) (found : Drawn) → Some found ≡ drawn_at flat number
    → IsThere flat number found
unfolding drawn_at shape_line
is_there flat number found is =
    cases (slice_get flat.shapes number) (slice_get flat.labels (number - length flat.shapes)) refl refl is
  where
    cases : (s : Option Shape) (l : Option Label) → slice_get flat.shapes number ≡ s
        → slice_get flat.labels (number - length flat.shapes) ≡ l → Some found ≡ drawn_of s l
        → IsThere flat number found
    cases (Some s) l here other is =
        let within = slice_get_within flat.shapes number s here in
        let same : found ≡ drawn.Shape s = cc in
        record {
          below = omega arith;
          line = ap (drawn_line number) same
              ∙ sym (ap (λ o. line_of number o (slice_get flat.labels (number - length flat.shapes))) here);
        }
    cases None (Some l) none here is =
        let within = slice_get_within flat.labels (number - length flat.shapes) l here in
        let same : found ≡ drawn.Label l = cc in
        record {
          below = omega arith;
          line = ap (drawn_line number) same
              ∙ sym (λ i. line_of number (none i) (here i));
        }
    cases None None none other is = absurd cc

past_all : {A : Type 0} (xs : List A) (i : ℕ) → slice_get xs i ≡ None → length xs ≤ i
past_all [] i none = omega arith
past_all (x ∷ xs) zero none = absurd cc
past_all (x ∷ xs) (suc i) none = (let rest = past_all xs i none in omega arith)

-- and where there is none, it is not
pub none_there : (flat : Flat) (number : ℕ) → None ≡ drawn_at flat number → flat_count flat ≤ number
unfolding drawn_at
none_there flat number is =
    cases (slice_get flat.shapes number) (slice_get flat.labels (number - length flat.shapes)) refl refl is
  where
    cases : (s : Option Shape) (l : Option Label) → slice_get flat.shapes number ≡ s
        → slice_get flat.labels (number - length flat.shapes) ≡ l → None ≡ drawn_of s l → flat_count flat ≤ number
    cases (Some s) l here other is = absurd cc
    cases None (Some l) none here is = absurd cc
    cases None None none other is =
        let shapes = past_all flat.shapes number none in
        let labels = past_all flat.labels (number - length flat.shapes) other in
        omega arith

pub unfound : ((layout : WideLayout) → wide_count layout ≡ flat_count (wide_flat layout)) → (layout : WideLayout)
    (number count : ℕ) → IsFlattenable layout → flat_count (wide_flat layout) ≤ number
    → count ≡ told (wide_count layout) → IsUnfoundFault (wide_flat layout) number (NoShape number count)
unfound exact layout number count can past is =
    let few = can.within in
    let same = exact layout in
    record { number_is = refl; count_is = omega arith; past = omega arith }

pub ruleset finds = (none_there)

-- ---- both numbers

pub unfound_prints : (flat : Flat) (asked : ℕ) (Means : List ℕ → Type 0) (held : Output) (fault : Fault)
    → IsUnfoundFault flat asked fault → TextPrints Means held held (Some fault)
unfound_prints flat asked Means held (NoShape number count) bad = refl
unfound_prints flat asked Means held Memory bad = inl refl
unfound_prints flat asked Means held _ bad = absurd bad

-- the first number is none
pub first_unfound : (flat : Flat) (first second : ℕ) (fault : Fault) → IsUnfoundFault flat first fault
    → IsNamingFault flat first second fault
first_unfound flat first second (NoShape number count) bad =
    let past = bad.past in
    record { count_is = bad.count_is; past = omega (arith, bad.number_is); which = inl bad.number_is }
first_unfound flat first second Memory bad = tt
first_unfound flat first second _ bad = absurd bad

-- or the second, and the first is one
pub second_unfound : (flat : Flat) (first second : ℕ) (one : Drawn) (fault : Fault) → Some one ≡ drawn_at flat first
    → IsUnfoundFault flat second fault → IsNamingFault flat first second fault
second_unfound flat first second one (NoShape number count) there bad =
    let below = (is_there flat first one there).below in
    record {
      count_is = bad.count_is;
      past = omega (arith, bad.number_is, bad.past);
      which = inr (omega (arith, bad.count_is, below), bad.number_is);
    }
second_unfound flat first second one Memory there bad = tt
second_unfound flat first second one _ there bad = absurd bad

-- both are
lines_there : (flat : Flat) (first second : ℕ) (one other : Drawn) → Some one ≡ drawn_at flat first
    → Some other ≡ drawn_at flat second → HasLines flat first second (drawn_line first one ++ drawn_line second other)
lines_there flat first second one other here there =
    let a = is_there flat first one here in
    let b = is_there flat second other there in
    record { first_there = a.below; second_there = b.below; text_is = λ i. a.line i ++ b.line i }

pub both_print : (flat : Flat) (first second : ℕ) (one other : Drawn) (shown shown' : Output)
    (result : Result (Unit {0}) Fault) → Some one ≡ drawn_at flat first → Some other ≡ drawn_at flat second
    → PrintsText (drawn_line first one ++ drawn_line second other) shown shown' result
    → TextPrints (HasLines flat first second) shown shown' (result_err result)
both_print flat first second one other shown shown' result here there prints =
    text_prints (HasLines flat first second) (drawn_line first one ++ drawn_line second other) shown shown' result
    (lines_there flat first second one other here there) prints

pub both_naming : (flat : Flat) (first second : ℕ) (text : List ℕ) (shown shown' : Output)
    (result : Result (Unit {0}) Fault) → PrintsText text shown shown' result
    → IfErr result (IsNamingFault flat first second)
both_naming flat first second text shown shown' result prints =
    each_text (λ r. IfErr r (IsNamingFault flat first second)) text shown shown' (λ p. tt) (λ p. tt) (λ p. tt) result
    prints

pub ruleset shows = (unfound_prints, first_unfound, second_unfound, both_print, both_naming)
