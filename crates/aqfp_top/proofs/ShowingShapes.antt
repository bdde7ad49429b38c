-- From the clauses of the steps of naming shapes to its own.
use Rattle.std.proofs.Common.{ℕ, ◌≡◌, ◌≤◌, ◌<◌, ◌⊎◌, List, [], ◌∷◌, Option, Some, None, Result, Ok, Err}
use Rattle.std.proofs.Common.{IfErr}
use Rattle.std.proofs.Common.{refl, sym, subst, inl, inr, arith}
use Rattle.std.specs.Result.{result_err}
use Rattle.aq_base.specs.Output.{Output}
use Rattle.geom.specs.declared.shapes.Flat.{Flat}
use Rattle.poly_cut.specs.declared.layout.WideLayout.{WideLayout}
use Rattle.poly_cut.specs.FlatForm.{wide_flat}
use Rattle.gds_records.specs.Stream.{IsWideStream}
use Rattle.aqfp_top.specs.Loads.{gds_limit}
use Rattle.aqfp_top.specs.Stages as stage
use Rattle.aqfp_top.specs.Stages.{Stage, FindsNone, IsFirst, Answers}
use Rattle.aqfp_top.specs.Due.{showing_stages}
use Rattle.aqfp_top.specs.Faults.{IsShapesFault}
use Rattle.aqfp_top.specs.Printed.{TextPrints}
use Rattle.aqfp_top.specs.Shown.{IsNoShape, HasLines, AreShapes}
use Rattle.aqfp_top.specs.Code.Loading.{IsFaultOfLoad}
use Rattle.aqfp_top.specs.Code.Reporting.{IsLayoutFault, IsNamingFault, IsShowingFault}
use Rattle.aqfp_top.specs.declared.fault.WriteCall.TheVariants.{Create, Append, Close, Out}
use Rattle.aqfp_top.specs.declared.fault.Fault.{Fault}
use Rattle.aqfp_top.specs.declared.fault.Fault.TheVariants.{WriteFault, NoShape, Memory}
use Rattle.aqfp_top.proofs.EachFault.{each_load, each_layout, each_showing}
use Rattle.aqfp_top.proofs.Judging.{IsRead}
use Rattle.aqfp_top.proofs.Printing.{prints_more}
use Rattle.aqfp_top.proofs.Staging.{past, past_all, found}

-- The layout.

-- the numbers are of shapes, so that nothing is found
there_not_past : (first second count number : ℕ) → first < count → second < count → count ≤ number
    → ((number ≡ first) ⊎ ((first < count) × (number ≡ second))) → ⊥
there_not_past first second count number one other past (inl is) = omega (arith, one, past, is)
there_not_past first second count number one other past (inr is) = let same = is.1 in omega (arith, other, past, same)

numbers_none : (one_layout : (bytes : List ℕ) (layout other : WideLayout) → IsWideStream bytes layout
    → IsWideStream bytes other → layout ≡ other)
    (gds : List ℕ) (layout : WideLayout) (first second : ℕ) (text : List ℕ) → IsRead gds layout
    → HasLines (wide_flat layout) first second text → FindsNone (stage.Numbers gds first second)
numbers_none one_layout gds layout first second text is lines (NoShape number count) bad =
    let same = one_layout gds bad.layout layout bad.read.stream is.read.stream in
    let none : IsNoShape (wide_flat layout) first second number count =
    subst (λ l. IsNoShape (wide_flat l) first second number count) same bad.none in
    let counted = sym none.count_is in
    there_not_past first second count number
    (subst (λ n. first < n) counted lines.first_there) (subst (λ n. second < n) counted lines.second_there)
    none.past none.which
numbers_none one_layout gds layout first second text is lines _ bad = absurd bad

pub well : (one_layout : (bytes : List ℕ) (layout other : WideLayout) → IsWideStream bytes layout
    → IsWideStream bytes other → layout ≡ other)
    (gds : List ℕ) (layout : WideLayout) (first second : ℕ) (text : List ℕ) → IsRead gds layout
    → HasLines (wide_flat layout) first second text → IsFirst (showing_stages gds first second) None
well one_layout gds layout first second text is lines =
    (is.stream, (is.size, (numbers_none one_layout gds layout first second text is lines, tt)))

-- what the layout's lines may answer the stages may
pub shown_answers : (one_layout : (bytes : List ℕ) (layout other : WideLayout) → IsWideStream bytes layout
    → IsWideStream bytes other → layout ≡ other)
    (gds : List ℕ) (layout : WideLayout) (first second : ℕ) (before after : Output)
    (result : Result (Unit {0}) Fault) → IsRead gds layout
    → TextPrints (HasLines (wide_flat layout) first second) before after (result_err result)
    → IfErr result (IsNamingFault (wide_flat layout) first second)
    → Answers (showing_stages gds first second) (result_err result)
shown_answers one_layout gds layout first second before after (Ok x) is prints bad =
    well one_layout gds layout first second prints.text is prints.means
shown_answers one_layout gds layout first second before after (Err (NoShape number count)) is prints bad =
    past_all (stage.Stream gds ∷ stage.Size gds ∷ []) (stage.Numbers gds first second ∷ [])
    (Some (NoShape number count))
    (is.stream, (is.size, tt))
    (found (stage.Numbers gds first second) [] (NoShape number count)
    (record { layout = layout; read = is.read; none = bad }))
shown_answers one_layout gds layout first second before after (Err (WriteFault Out)) is prints bad =
    well one_layout gds layout first second prints.text is prints.means
shown_answers one_layout gds layout first second before after (Err (WriteFault Create)) is prints bad = absurd bad
shown_answers one_layout gds layout first second before after (Err (WriteFault Append)) is prints bad = absurd bad
shown_answers one_layout gds layout first second before after (Err (WriteFault Close)) is prints bad = absurd bad
shown_answers one_layout gds layout first second before after (Err Memory) is prints bad = tt
shown_answers one_layout gds layout first second before after (Err _) is prints bad = absurd bad

pub shown_prints : (gds : List ℕ) (layout : WideLayout) (first second : ℕ) (before after : Output)
    (fault : Option Fault) → IsRead gds layout
    → TextPrints (HasLines (wide_flat layout) first second) before after fault
    → TextPrints (AreShapes gds first second) before after fault
shown_prints gds layout first second before after fault is prints =
    prints_more (HasLines (wide_flat layout) first second) (AreShapes gds first second) before after fault
    (λ text lines. record { layout = layout; read = is.read; lines = lines }) prints

naming_showing : (flat : Flat) (first second : ℕ) (fault : Fault) → IsNamingFault flat first second fault
    → IsShowingFault fault
naming_showing flat first second (NoShape number count) bad = tt
naming_showing flat first second (WriteFault Out) bad = tt
naming_showing flat first second (WriteFault Create) bad = absurd bad
naming_showing flat first second (WriteFault Append) bad = absurd bad
naming_showing flat first second (WriteFault Close) bad = absurd bad
naming_showing flat first second Memory bad = tt
naming_showing flat first second _ bad = absurd bad

pub shown_only : (flat : Flat) (first second : ℕ) (result : Result (Unit {0}) Fault)
    → IfErr result (IsNamingFault flat first second) → IfErr result IsShowingFault
shown_only flat first second (Ok x) bad = tt
shown_only flat first second (Err fault) bad = naming_showing flat first second fault bad

pub layout_showing : (fault : Fault) → IsLayoutFault fault → IsShowingFault fault
layout_showing fault wrong = each_layout IsShowingFault (λ o k. tt) (λ n. tt) tt fault wrong

pub layout_answers : (gds gds' : List ℕ) (first second : ℕ) (fault : Fault) → gds' ≡ gds
    → ((rest : List Stage) → Answers (stage.Stream gds' ∷ stage.Size gds' ∷ rest) (Some fault))
    → Answers (showing_stages gds first second) (Some fault)
layout_answers gds gds' first second fault same bad =
    let rest = stage.Numbers gds first second ∷ [] in
    subst (λ g. Answers (stage.Stream g ∷ stage.Size g ∷ rest) (Some fault)) same (bad rest)

pub ruleset shows = (layout_showing)

-- The whole.

pub load_shapes : (fault : Fault) → IsFaultOfLoad 1 gds_limit fault → IsShapesFault fault
load_shapes fault only = each_load IsShapesFault 1 gds_limit (inl refl)
    (λ taken more. inl (refl, more)) (inl refl) tt fault only

pub showing_only : (result : Result (Unit {0}) Fault) → IfErr result IsShowingFault → IfErr result IsShapesFault
showing_only (Ok x) only = tt
showing_only (Err fault) only =
    each_showing IsShapesFault refl (λ n m. tt) (each_layout IsShapesFault (λ o k. tt) (λ n. tt) tt) fault only

pub ruleset ends = load_shapes
