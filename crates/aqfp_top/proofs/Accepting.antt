-- Where nothing is wrong with the texts of a command no stage finds a fault, and its work is done.
use Rattle.std.proofs.Common.{ℕ, ◌≡◌, ◌<◌, ◌⊎◌, List, length, Option, Some, None, inl, inr, refl, subst}
use Rattle.geom.specs.declared.shapes.Flat.{Flat}
use Rattle.geom.specs.FlatForm.{flat_count}
use Rattle.poly_cut.specs.declared.layout.WideLayout.{WideLayout}
use Rattle.poly_cut.specs.Counts.{wide_count}
use Rattle.poly_cut.specs.FlatForm.{wide_flat}
use Rattle.gds_records.specs.Stream.{IsWideStream}
use Rattle.gds_records.specs.Faults.{WideFault}
use Rattle.gds_records.specs.declared.fault.StreamKind.{StreamKind}
use Rattle.blif_read.specs.Parts.{NetView}
use Rattle.cell_library.specs.Library.{LibraryView, limits_of}
use Rattle.cell_library.specs.Says as library
use Rattle.layout_rules.specs.declared.rule.Rule.{Rule}
use Rattle.layout_rules.specs.declared.rule.Rule.TheVariants.{E1, E2, E6}
use Rattle.layout_rules.specs.Limits.{Limits}
use Rattle.layout_rules.specs.Rules.{Keeps, KeepsRules, FirstBroken}
use Rattle.circuit_extracted.specs.Circuits.{CircuitView}
use Rattle.shape_extract.specs.Extraction.{IsCircuitOf}
use Rattle.aqfp_top.specs.Checks.{IsLayoutOf, IsUnruly, SaysSound, IsRuleFault}
use Rattle.aqfp_top.specs.Comparing.{MakesBoth}
use Rattle.aqfp_top.specs.Designs.{HasDesign, PlanGivesUp}
use Rattle.aqfp_top.specs.Stages.{Stage, IsFirst, Answers, SomeGivesUp}
use Rattle.aqfp_top.specs.Due.{design_stages, circuit_stages, judging_stages, comparing_stages, showing_stages}
use Rattle.aqfp_top.specs.Due.{sample_stages, IsDoneOrOutside}
use Rattle.aqfp_top.specs.Ended.{IsDoneOrGivesUp}
use Rattle.aqfp_top.specs.declared.planner.Planner.{Planner}
use Rattle.aqfp_top.specs.declared.fault.Large.{Large}
use Rattle.aqfp_top.specs.declared.fault.Fault.{Fault}
use Rattle.aqfp_top.specs.declared.fault.Fault.TheVariants.{ReadFault, WriteFault, TooLarge, RuleBroken, Memory}
use Rattle.aqfp_top.proofs.OneFault.{same_said, says_no_cells_fault}
use Rattle.aqfp_top.proofs.OneCheck.{stream_none, size_none, words_none}
use Rattle.aqfp_top.proofs.OneComparison.{widths_none}
use Rattle.aqfp_top.proofs.Judging.{words_are_well}
use Rattle.aqfp_top.proofs.Comparing.{both_well, compared_well}
use Rattle.aqfp_top.proofs.ShowingShapes as showing
use Rattle.aqfp_top.proofs.EndedWell.{well_ends}

-- No stage finds a fault.

module _ (one_layout : (bytes : List ℕ) (layout other : WideLayout) → IsWideStream bytes layout
    → IsWideStream bytes other → layout ≡ other) where
  -- shapes that keep the rules break none
  not_unruly : (gds lib : List ℕ) (layout : WideLayout) (cells : LibraryView) (rule : Rule) (a b : ℕ)
      → IsLayoutOf gds layout → library.SaysLibrary lib cells → KeepsRules (wide_flat layout) (limits_of cells)
      → IsUnruly gds lib rule a b → ⊥
  not_unruly gds lib layout cells rule a b read says rules bad =
      let same = one_layout gds bad.layout layout bad.read.stream read.stream in
      let view = same_said lib bad.library.view cells bad.library.says says in
      let broken : FirstBroken (wide_flat layout) (limits_of cells) rule a b =
      subst (λ c. FirstBroken (wide_flat layout) (limits_of c) rule a b) view
      (subst (λ l. FirstBroken (wide_flat l) (limits_of bad.library.view) rule a b) same bad.broken) in
      rules rule a b broken.report.reported

  no_rule : (gds lib : List ℕ) (layout : WideLayout) (cells : LibraryView) → IsLayoutOf gds layout
      → library.SaysLibrary lib cells → KeepsRules (wide_flat layout) (limits_of cells)
      → (fault : Fault) → IsRuleFault gds lib fault → ⊥
  no_rule gds lib layout cells read says rules (RuleBroken rule a b) bad =
      not_unruly gds lib layout cells rule a b read says rules bad
  no_rule gds lib layout cells read says rules _ bad = absurd bad

  module _ (exact : (layout : WideLayout) → wide_count layout ≡ flat_count (wide_flat layout))
      (not_both : (bytes : List ℕ) (layout : WideLayout) (offset : ℕ) (kind : StreamKind) → IsWideStream bytes layout
      → WideFault bytes offset kind → ⊥) where
    pub circuit_well : (gds lib : List ℕ) (layout : WideLayout) (cells : LibraryView) → IsLayoutOf gds layout
        → library.SaysLibrary lib cells → KeepsRules (wide_flat layout) (limits_of cells)
        → IsFirst (circuit_stages gds lib) None
    circuit_well gds lib layout cells read says rules = (
      stream_none not_both gds layout read.stream,
      (
        size_none one_layout exact gds layout read,
        (says_no_cells_fault lib cells says, (no_rule gds lib layout cells read says rules, tt)),
      ),
    )

    pub shapes_well : (gds : List ℕ) (layout : WideLayout) (first second : ℕ) → IsLayoutOf gds layout
        → first < flat_count (wide_flat layout) → second < flat_count (wide_flat layout)
        → IsFirst (showing_stages gds first second) None
    shapes_well gds layout first second read one other =
        showing.well one_layout gds layout first second _ (record {
          read = read;
          stream = stream_none not_both gds layout read.stream;
          size = size_none one_layout exact gds layout read;
        }) (record { first_there = one; second_there = other; text_is = refl })

    module _ (one_circuit : (flat : Flat) (limits : Limits) (first second : CircuitView) → Keeps E1 flat limits
        → Keeps E2 flat limits → Keeps E6 flat limits → IsCircuitOf flat first → IsCircuitOf flat second
        → first ≡ second) where
      pub judged_well : (gds lib text : List ℕ) → SaysSound gds lib text → IsFirst (judging_stages gds lib text) None
      judged_well gds lib text says =
          let makes = says.sound.makes in
          words_are_well gds lib text
          (circuit_well gds lib makes.layout makes.library.view makes.read makes.library.says makes.rules)
          (words_none one_layout one_circuit gds lib text says.circuit says.sound)

      pub pair_well : (gds lib net : List ℕ) (circuit : CircuitView) (view : NetView)
          → MakesBoth gds lib net circuit view → view.inputs ≡ circuit.inputs
          → length view.outputs ≡ length circuit.outputs → IsFirst (comparing_stages gds lib net) None
      pair_well gds lib net circuit view both inputs outputs =
          let makes = both.makes in
          compared_well gds lib net
          (both_well gds lib net view
          (circuit_well gds lib makes.layout makes.library.view makes.read makes.library.says makes.rules) both.says)
          (widths_none one_layout one_circuit gds lib net circuit view both inputs outputs)

-- And the work is done.

rest : {A : Type 0} → ⊥ ⊎ A → A
rest (inl none) = absurd none
rest (inr other) = other

-- where no stage gives up
never_gives_up : (stages : List Stage) (answer : Option Fault)
    → ((what : Large) (count : ℕ) → SomeGivesUp stages what count → ⊥) → IsDoneOrGivesUp stages answer
    → IsDoneOrOutside answer
never_gives_up stages None never done = tt
never_gives_up stages (Some Memory) never done = tt
never_gives_up stages (Some (ReadFault place)) never done = tt
never_gives_up stages (Some (WriteFault call)) never done = tt
never_gives_up stages (Some (TooLarge what count)) never done = never what count done
never_gives_up stages (Some _) never done = done

pub check_ends : (gds lib text : List ℕ) (answer : Option Fault) → IsFirst (judging_stages gds lib text) None
    → Answers (judging_stages gds lib text) answer → IsDoneOrOutside answer
check_ends gds lib text answer none answers =
    never_gives_up (judging_stages gds lib text) answer (λ what count gives. rest (rest (rest (rest (rest gives)))))
    (well_ends (judging_stages gds lib text) answer none answers)

pub circuit_ends : (gds lib : List ℕ) (answer : Option Fault) → IsFirst (circuit_stages gds lib) None
    → Answers (circuit_stages gds lib) answer → IsDoneOrOutside answer
circuit_ends gds lib answer none answers =
    never_gives_up (circuit_stages gds lib) answer (λ what count gives. rest (rest (rest (rest gives))))
    (well_ends (circuit_stages gds lib) answer none answers)

pub shapes_end : (gds : List ℕ) (first second : ℕ) (answer : Option Fault)
    → IsFirst (showing_stages gds first second) None → Answers (showing_stages gds first second) answer
    → IsDoneOrOutside answer
shapes_end gds first second answer none answers =
    never_gives_up (showing_stages gds first second) answer (λ what count gives. rest (rest (rest gives)))
    (well_ends (showing_stages gds first second) answer none answers)

pub sample_ends : (bits : ℕ) (answer : Option Fault) → IsFirst (sample_stages bits) None
    → Answers (sample_stages bits) answer → IsDoneOrOutside answer
sample_ends bits answer none answers =
    never_gives_up (sample_stages bits) answer (λ what count gives. rest (rest gives))
    (well_ends (sample_stages bits) answer none answers)

-- making a chip, where its plan passes no limit for which it gives up
pub design_ends : (planner : Planner) (net lib : List ℕ) (answer : Option Fault)
    → ((what : Large) (count : ℕ)
    → HasDesign net lib (λ equations cells. PlanGivesUp planner equations cells what count) → ⊥)
    → IsFirst (design_stages planner net lib) None → Answers (design_stages planner net lib) answer
    → IsDoneOrOutside answer
design_ends planner net lib answer never none answers =
    never_gives_up (design_stages planner net lib) answer
    (λ what count gives. elim (rest (rest gives)) [ inl many ↦ never what count many | inr none ↦ none ])
    (well_ends (design_stages planner net lib) answer none answers)
