-- From the clauses of the steps to those of a sample.
use Rattle.std.proofs.Common.{ℕ, ◌≡◌, ◌<◌, ◌≤◌, ◌+◌, ◌*◌, ◌^◌, ◌++◌, Bool, List, [], ◌∷◌, length, take, get_or, All}
use Rattle.std.proofs.Common.{Some, None, Result, IfErr, inl, inr, refl, sym, ap, subst, arith, ◌∙◌}
use Rattle.std.specs.List.{AllZip}
use Rattle.std.proofs.lemmas.List.{take_more}
use Rattle.std.proofs.lemmas.List.Elements.{AllZip-push}
use Rattle.aq_base.specs.Output.{Output}
use Rattle.blif_read.specs.Parts.{NetView}
use Rattle.blif_read.specs.Says as netlist
use Rattle.blif_read.specs.Equations.{IsAnswer}
use Rattle.cell_library.specs.Library.{LibraryView}
use Rattle.cell_library.specs.LibraryA.{library_a_view}
use Rattle.layout_make.specs.Size.{element_number}
use Rattle.rowed.specs.Limits.{element_limit}
use Rattle.plan_build.specs.Plans.{chip_of}
use Rattle.sample_adder.specs.Adder.{adder}
use Rattle.sample_adder.specs.EightWords.{eight}
use Rattle.sample_adder.specs.SampleText.{sample_text}
use Rattle.aqfp_top.specs.Designs.{KeepsLimits, IsPlainFault, IsPlanFault}
use Rattle.aqfp_top.specs.Stages as stage
use Rattle.aqfp_top.specs.Stages.{Finds, FindsNone, IsFirst, Answers}
use Rattle.aqfp_top.specs.Due.{sample_stages}
use Rattle.aqfp_top.specs.Faults.{IsSampleFault}
use Rattle.aqfp_top.specs.Samples.{text_of, IsSampled}
use Rattle.aqfp_top.specs.Code.Staging.{OrMemory}
use Rattle.aqfp_top.specs.Code.Designing.{AreCountsOf, IsChipOf, PlanRefuses, IsWellPlanned}
use Rattle.aqfp_top.specs.Code.Printing.{PrintsText}
use Rattle.aqfp_top.specs.Code.Sampling.{IsSampleOfBits, text_in, IsMakingFault}
use Rattle.aqfp_top.specs.declared.planner.Planner.TheVariants.{Build}
use Rattle.aqfp_top.specs.declared.sample.SampleResult.{SampleResult}
use Rattle.aqfp_top.specs.declared.design.Chip.{Chip}
use Rattle.aqfp_top.specs.declared.fault.Large.TheVariants.{Slots, Rows, Cells, Elements, Shapes}
use Rattle.aqfp_top.specs.declared.fault.Fault.{Fault}
use Rattle.aqfp_top.specs.declared.fault.Fault.TheVariants.{BadBlif, TooLarge, Memory}
use Rattle.aqfp_top.proofs.OutEnds.{each_text}
use Rattle.aqfp_top.proofs.Staging.{past, found}
use Rattle.aqfp_top.proofs.OneFault.{says_no_plain_fault, one_plain}

-- Reading.

pub few_bytes : (text : List ℕ) (bits : ℕ) → text ≡ adder bits → ((n : ℕ) → n ≤ 64 → length (adder n) ≤ 16777216)
    → bits ≤ 64 → length text ≤ 2 ^ 28
few_bytes text bits is size few = let short : length text ≤ 16777216 = subst (λ t. length t ≤ 16777216) (sym is)
    (size bits few) in omega (arith, short)

pub ruleset reads = (few_bytes)

-- Answering.

pub next_answer : (net : NetView) (words answers : List (List Bool)) (i : ℕ) (word answer : List Bool)
    → i < length words → word ≡ get_or words i word → AllZip (IsAnswer net) (take i words) answers
    → IsAnswer net word answer
    → AllZip (IsAnswer net) (take (i + 1) words) (answers ++ answer ∷ [])
next_answer net words answers i word answer within at so_far next =
    subst (λ ws. AllZip (IsAnswer net) ws (answers ++ answer ∷ []))
    (sym (take_more words i word within ∙ ap (λ w. take i words ++ w ∷ []) (sym at)))
    (AllZip-push (IsAnswer net) (take i words) answers word answer so_far next)

pub wide_words : (words : List (List Bool)) (bits inputs : ℕ) → words ≡ eight bits
    → All (λ word. length word ≡ 2 * bits) (eight bits) → inputs ≡ 2 * bits → All (λ word. length word ≡ inputs) words
wide_words words bits inputs is wide same = subst (λ ws. All (λ word. length word ≡ inputs) ws) (sym is)
    (subst (λ n. All (λ word. length word ≡ n) (eight bits)) (sym same) wide)

-- Making.

pub reading_answers : (bits : ℕ) (fault : Fault) → OrMemory (IsPlainFault (adder bits)) fault
    → Answers (sample_stages bits) (Some fault)
reading_answers bits fault bad = found (stage.Plain (adder bits))
    (stage.PlanWith (adder bits) library_a_view ∷ []) fault bad

plan_finds : (bits : ℕ) (equations : NetView) (fault : Fault) → netlist.SaysNet (adder bits) equations
    → OrMemory (IsPlanFault equations library_a_view) fault
    → OrMemory (Finds (stage.PlanWith (adder bits) library_a_view)) fault
plan_finds bits equations (TooLarge what count) says bad = record { equations = equations; says = says; holds = bad }
plan_finds bits equations Memory says bad = tt
plan_finds bits equations _ says bad = absurd bad

-- the defined plan refuses what it finds
plan_refuses : (equations : NetView) (cells : LibraryView) (fault : Fault)
    → OrMemory (PlanRefuses Build equations cells) fault
    → OrMemory (IsPlanFault equations cells) fault
plan_refuses equations cells (TooLarge what count) (inl bad) = bad
plan_refuses equations cells (TooLarge what count) (inr none) = absurd none
plan_refuses equations cells Memory bad = tt
plan_refuses equations cells _ bad = absurd bad

pub planning_answers : (bits : ℕ) (equations : NetView) (cells : LibraryView) (fault : Fault)
    → netlist.SaysNet (adder bits) equations → cells ≡ library_a_view
    → OrMemory (PlanRefuses Build equations cells) fault → Answers (sample_stages bits) (Some fault)
planning_answers bits equations cells fault says is refused =
    let bad = plan_refuses equations cells fault refused in
    past (stage.Plain (adder bits)) (stage.PlanWith (adder bits) library_a_view ∷ []) (Some fault)
    (says_no_plain_fault (adder bits) equations says)
    (found (stage.PlanWith (adder bits) library_a_view) [] fault
    (plan_finds bits equations fault says (subst (λ l. OrMemory (IsPlanFault equations l) fault) is bad)))

own_plan_none : (bits : ℕ) (equations : NetView) → netlist.SaysNet (adder bits) equations
    → IsWellPlanned Build equations library_a_view → FindsNone (stage.PlanWith (adder bits) library_a_view)
own_plan_none bits equations says none fault bad = none fault
    (subst (λ n. IsPlanFault n library_a_view fault)
    (one_plain (adder bits) bad.equations equations bad.says says) bad.holds)

pub sample_is_well : (bits : ℕ) (equations : NetView) (cells : LibraryView) → netlist.SaysNet (adder bits) equations
    → cells ≡ library_a_view → IsWellPlanned Build equations cells → IsFirst (sample_stages bits) None
sample_is_well bits equations cells says is none = (
  says_no_plain_fault (adder bits) equations says,
  (own_plan_none bits equations says (subst (λ l. IsWellPlanned Build equations l) is none), tt),
)

pub sample_is_made : (bits : ℕ) (equations : NetView) (cells : LibraryView) (chip : Chip) (sample : SampleResult)
    → netlist.SaysNet (adder bits) equations → cells ≡ library_a_view → IsChipOf Build equations cells chip
    → sample.counts ≡ chip.counts → AllZip (IsAnswer equations) (eight bits) sample.answers → IsSampleOfBits bits sample
sample_is_made bits equations cells chip sample says is made counts answers = record {
  equations = equations;
  says = says;
  limits = subst (λ l. KeepsLimits equations l) is (record {
    within = made.planned.1;
    small = subst (λ p. element_number p ≤ element_limit) made.planned.0 made.of_net.small;
  });
  counts = subst (λ c. AreCountsOf (chip_of library_a_view equations) c) (sym counts)
      (subst (λ l. AreCountsOf (chip_of l equations) chip.counts) is
      (subst (λ p. AreCountsOf p chip.counts) made.planned.0 made.drawn.counts));
  are_answers = answers;
}

pub reading_fault : (bits : ℕ) (fault : Fault) → OrMemory (IsPlainFault (adder bits)) fault → IsMakingFault fault
reading_fault bits (BadBlif fault) bad = tt
reading_fault bits Memory bad = tt
reading_fault bits _ bad = absurd bad

own_planning_fault : (equations : NetView) (cells : LibraryView) (fault : Fault)
    → OrMemory (IsPlanFault equations cells) fault
    → IsMakingFault fault
own_planning_fault equations cells (TooLarge Slots count) bad = tt
own_planning_fault equations cells (TooLarge Rows count) bad = tt
own_planning_fault equations cells (TooLarge Cells count) bad = tt
own_planning_fault equations cells (TooLarge Elements count) bad = tt
own_planning_fault equations cells (TooLarge Shapes count) bad = absurd bad
own_planning_fault equations cells Memory bad = tt
own_planning_fault equations cells _ bad = absurd bad

pub planning_fault : (equations : NetView) (cells : LibraryView) (fault : Fault)
    → OrMemory (PlanRefuses Build equations cells) fault → IsMakingFault fault
planning_fault equations cells fault refused =
    own_planning_fault equations cells fault (plan_refuses equations cells fault refused)

pub ruleset makes = (reading_answers, planning_answers, sample_is_well, sample_is_made, reading_fault, planning_fault)

-- Ending.

pub making_is_sample : (fault : Fault) → IsMakingFault fault → IsSampleFault fault
making_is_sample (BadBlif fault) only = tt
making_is_sample (TooLarge Slots count) only = tt
making_is_sample (TooLarge Rows count) only = tt
making_is_sample (TooLarge Cells count) only = tt
making_is_sample (TooLarge Elements count) only = tt
making_is_sample (TooLarge Shapes count) only = absurd only
making_is_sample Memory only = tt
making_is_sample _ only = absurd only

pub printing_is_sample : (text : List ℕ) (shown shown' : Output) (result : Result (Unit {0}) Fault)
    → PrintsText text shown shown' result → IfErr result IsSampleFault
printing_is_sample text shown shown' result prints = each_text (λ r. IfErr r IsSampleFault) text shown shown' (λ p. tt)
    (λ p. refl) (λ p. tt) result prints

pub sampled : (bits : ℕ) (sample : SampleResult) (Printed : List ℕ → Type 0) → IsSampleOfBits bits sample
    → Printed (text_in bits sample) → IsSampled bits Printed
sampled bits sample Printed is prints =
    let chip = chip_of library_a_view is.equations in
    let same : text_in bits sample ≡ text_of bits chip sample.answers =
    λ i. sample_text bits (is.counts.rows i) (is.counts.cells i) (is.counts.wires i) sample.answers in
    record {
      equations = is.equations;
      says = is.says;
      limits = is.limits;
      answers = sample.answers;
      are_answers = is.are_answers;
      printed = subst Printed same prints;
    }

pub ruleset ends = (making_is_sample, printing_is_sample)
