-- From the faults of the steps that judge a chip's texts to what the stages answer.
use Rattle.std.proofs.Common.{ℕ, List, [], ◌∷◌, Some, None, Result, Ok, Err, IfOk, IfErr, OnOk, subst, sym, ◌≡◌, ◌≤◌}
use Rattle.std.proofs.Common.{◌<◌, ◌^◌, arith}
use Rattle.geom.specs.FlatForm.{flat_count, shape_limit}
use Rattle.poly_cut.specs.declared.layout.WideLayout.{WideLayout}
use Rattle.poly_cut.specs.Conditions.{IsFlattenable}
use Rattle.poly_cut.specs.Counts.{wide_count}
use Rattle.poly_cut.specs.FlatForm.{wide_flat}
use Rattle.gds_records.specs.Stream.{IsWideStream}
use Rattle.gds_records.specs.Faults.{WideFault}
use Rattle.gds_records.specs.declared.fault.StreamKind.{StreamKind}
use Rattle.gds_read.specs.WideReading.{IsWideReadAs, IsWideTooLarge, IsWideRefusedFor}
use Rattle.gds_read.specs.declared.refusal.StreamRefusal.{StreamRefusal}
use Rattle.gds_read.specs.declared.refusal.StreamRefusal.TheVariants.{TooManyShapes}
use Rattle.cell_library.specs.Library.{LibraryView, limits_of}
use Rattle.cell_library.specs.Says as library
use Rattle.circuit_extracted.specs.Circuits.{CircuitView}
use Rattle.layout_rules.specs.declared.rule.Rule.{Rule}
use Rattle.layout_rules.specs.Limits.{Limits}
use Rattle.layout_rules.specs.Rules.{KeepsRules, FirstBroken}
use Rattle.geom.specs.declared.shapes.Flat.{Flat}
use Rattle.shape_extract.specs.Extraction.{IsCircuitOf}
use Rattle.shape_extract.specs.Extracts.{Extracts, BreaksCircuit, IfBroken}
use Rattle.shape_extract.specs.declared.extraction.ExtractRefusal.{ExtractRefusal}
use Rattle.shape_extract.specs.declared.extraction.ExtractRefusal.TheVariants.{Broken}
use Rattle.text_answers.specs.WordsText.{SaysWords, IsBadLine}
use Rattle.aqfp_top.specs.Designs.{IsCellsFault}
use Rattle.aqfp_top.specs.Checks.{IsLayoutOf, MakesCircuit, IsSound, IsRuleFault}
use Rattle.aqfp_top.specs.Stages as stage
use Rattle.aqfp_top.specs.Stages.{Stage, FindsNone, IsFirst, Answers}
use Rattle.aqfp_top.specs.Due.{circuit_stages, judging_stages}
use Rattle.aqfp_top.specs.Code.Staging.{OrMemory}
use Rattle.aqfp_top.specs.Code.Checking.{IsRuled, IsBroken, IsCircuitFault, circuit_then, IsJudged}
use Rattle.aqfp_top.proofs.Staging.{past, past_all, found}
use Rattle.aqfp_top.proofs.OneFault.{says_no_cells_fault}
use Rattle.aqfp_top.proofs.OneCheck.{stream_none, rules_none}
use Rattle.aqfp_top.specs.declared.fault.Large.TheVariants.{Shapes}
use Rattle.aqfp_top.specs.declared.judge.JudgedChip.{JudgedChip}
use Rattle.aqfp_top.specs.declared.fault.Fault.{Fault}
use Rattle.aqfp_top.specs.declared.fault.Fault.TheVariants.{BadLibrary, MissingCell, TooLarge, RuleBroken, BadWords}
use Rattle.aqfp_top.specs.declared.fault.Fault.TheVariants.{Memory}

-- Reading the layout.

-- what the reader gives
pub is_layout_of : ((layout : WideLayout) → wide_count layout ≡ flat_count (wide_flat layout))
    → (gds : List ℕ) (layout : WideLayout) → IsWideReadAs gds layout → IsLayoutOf gds layout
is_layout_of exact gds layout read =
    record { stream = read.stream; within = subst (λ n. n ≤ shape_limit) (exact layout) read.flattenable.within }

pub few_shapes : ((layout : WideLayout) → wide_count layout ≡ flat_count (wide_flat layout))
    → (layout : WideLayout) (flat : Flat) → IsFlattenable layout → flat ≡ wide_flat layout → flat_count flat < 2 ^ 32
few_shapes exact layout flat can is =
    let few : flat_count (wide_flat layout) ≤ shape_limit = subst (λ n. n ≤ shape_limit) (exact layout) can.within in
    subst (λ f. flat_count f < 2 ^ 32) (sym is) (omega (arith, few))

pub too_large : (gds : List ℕ) (refusal : StreamRefusal) (count : ℕ) → refusal ≡ TooManyShapes count
    → IsWideRefusedFor gds refusal → IsWideTooLarge gds count
too_large gds refusal count is refused = subst (IsWideRefusedFor gds) is refused

pub size_answers : ((bytes : List ℕ) (layout : WideLayout) (offset : ℕ) (kind : StreamKind) → IsWideStream bytes layout
    → WideFault bytes offset kind → ⊥) →
    (gds : List ℕ) (count : ℕ) → IsWideTooLarge gds count → (rest : List Stage)
    → Answers (stage.Stream gds ∷ stage.Size gds ∷ rest) (Some (TooLarge Shapes count))
size_answers not_both gds count large rest =
    past (stage.Stream gds) (stage.Size gds ∷ rest) (Some (TooLarge Shapes count))
    (stream_none not_both gds large.layout large.stream) (found (stage.Size gds) rest (TooLarge Shapes count) large)

-- the kinds of faults

pub broken_fault : (flat : Flat) (limits : Limits) (fault : Fault) → IsBroken flat limits fault → IsCircuitFault fault
broken_fault flat limits (RuleBroken rule first second) bad = tt
broken_fault flat limits Memory bad = tt
broken_fault flat limits _ bad = absurd bad

pub broken_faults : {A : Type 0} (flat : Flat) (limits : Limits) (result : Result A Fault)
    → IfErr result (IsBroken flat limits) → IfErr result IsCircuitFault
broken_faults flat limits (Ok x) bad = tt
broken_faults flat limits (Err fault) bad = broken_fault flat limits fault bad

pub cells_fault : (lib : List ℕ) (fault : Fault) → OrMemory (IsCellsFault lib) fault → IsCircuitFault fault
cells_fault lib (BadLibrary fault) bad = tt
cells_fault lib (MissingCell kind) bad = tt
cells_fault lib Memory bad = tt
cells_fault lib _ bad = absurd bad

-- the first broken rule of circuits is the first of all, whatever the numbers
pub rule_broken : (flat : Flat) (refusal : ExtractRefusal) (rule : Rule) (first second : ℕ)
    → refusal ≡ Broken rule first second → IfBroken refusal (BreaksCircuit flat)
    → (limits : Limits) → FirstBroken flat limits rule first second
rule_broken flat refusal rule first second is bad limits =
    let broken : BreaksCircuit flat rule first second =
    subst (λ r. IfBroken r (BreaksCircuit flat)) is bad in broken.first limits

-- The shapes of the layout.

-- they and the circuit are those of the layout
pub is_judged : (flat whole : Flat) (limits : Limits) (circuit : CircuitView) → flat ≡ whole → flat_count flat < 2 ^ 32
    → KeepsRules flat limits → Extracts flat circuit
    → IsJudged whole limits (record { flat = flat; circuit = circuit })
is_judged flat whole limits circuit same few rules extracts =
    record { flat_is = same; keeps = record { few = few; rules = rules; extracts = extracts } }

-- they keep the rules, and make the circuit
pub is_ruled : (whole : Flat) (limits : Limits) (chip : JudgedChip) → IsJudged whole limits chip
    → IsRuled whole limits chip.circuit
is_ruled whole limits chip judged = record {
  rules = subst (λ f. KeepsRules f limits) judged.flat_is judged.keeps.rules;
  circuit_is = subst (λ f. IsCircuitOf f chip.circuit) judged.flat_is judged.keeps.extracts.circuit_is;
}

pub is_broken : (flat whole : Flat) (limits : Limits) (fault : Fault) → flat ≡ whole → IsBroken flat limits fault
    → IsBroken whole limits fault
is_broken flat whole limits fault same bad = subst (λ f. IsBroken f limits fault) same bad

rule_is_wrong : (gds lib : List ℕ) (layout : WideLayout) (view : LibraryView) (fault : Fault) → IsLayoutOf gds layout
    → library.SaysLibrary lib view → IsBroken (wide_flat layout) (limits_of view) fault
    → OrMemory (IsRuleFault gds lib) fault
rule_is_wrong gds lib layout view (RuleBroken rule first second) read says bad =
    record { layout = layout; read = read; library = record { view = view; says = says }; broken = bad }
rule_is_wrong gds lib layout view Memory read says bad = tt
rule_is_wrong gds lib layout view _ read says bad = absurd bad

circuit_is_made : (gds lib : List ℕ) (layout : WideLayout) (view : LibraryView) (circuit : CircuitView)
    → IsLayoutOf gds layout → library.SaysLibrary lib view → IsRuled (wide_flat layout) (limits_of view) circuit
    → MakesCircuit gds lib circuit
circuit_is_made gds lib layout view circuit read says ruled = record {
  layout = layout;
  read = read;
  library = record { view = view; says = says };
  rules = ruled.rules;
  circuit_is = ruled.circuit_is;
}

-- From the faults of the steps to what the stages answer.

-- the bytes are these
pub layout_answers : (gds gds' lib : List ℕ) (fault : Fault) → gds' ≡ gds
    → ((rest : List Stage) → Answers (stage.Stream gds' ∷ stage.Size gds' ∷ rest) (Some fault)) → (rest : List Stage)
    → Answers (circuit_then gds lib rest) (Some fault)
layout_answers gds gds' lib fault same bad rest =
    let after = stage.Cells lib ∷ stage.Rules gds lib ∷ rest in
    subst (λ g. Answers (stage.Stream g ∷ stage.Size g ∷ after) (Some fault)) same (bad after)

-- what was found of the bytes before the library was read
pub record IsRead (gds : List ℕ) (layout : WideLayout) : Type 0 where
  pub read : IsLayoutOf gds layout
  pub stream : FindsNone (stage.Stream gds)
  pub size : FindsNone (stage.Size gds)

pub is_read : (gds gds' : List ℕ) (layout : WideLayout) → gds' ≡ gds → IsLayoutOf gds' layout
    → FindsNone (stage.Stream gds') → FindsNone (stage.Size gds') → IsRead gds layout
is_read gds gds' layout same read stream size = record {
  read = subst (λ g. IsLayoutOf g layout) same read;
  stream = subst (λ g. FindsNone (stage.Stream g)) same stream;
  size = subst (λ g. FindsNone (stage.Size g)) same size;
}

pub cells_answer : (gds lib : List ℕ) (layout : WideLayout) (fault : Fault) → IsRead gds layout
    → OrMemory (IsCellsFault lib) fault → (rest : List Stage) → Answers (circuit_then gds lib rest) (Some fault)
cells_answer gds lib layout fault is bad rest =
    past_all (stage.Stream gds ∷ stage.Size gds ∷ []) (stage.Cells lib ∷ stage.Rules gds lib ∷ rest) (Some fault)
    (is.stream, (is.size, tt)) (found (stage.Cells lib) (stage.Rules gds lib ∷ rest) fault bad)

rules_answer : (gds lib : List ℕ) (layout : WideLayout) (view : LibraryView) (fault : Fault) → IsRead gds layout
    → library.SaysLibrary lib view → OrMemory (IsRuleFault gds lib) fault → (rest : List Stage)
    → Answers (circuit_then gds lib rest) (Some fault)
rules_answer gds lib layout view fault is says bad rest =
    past_all (stage.Stream gds ∷ stage.Size gds ∷ stage.Cells lib ∷ []) (stage.Rules gds lib ∷ rest) (Some fault)
    (is.stream, (is.size, (says_no_cells_fault lib view says, tt))) (found (stage.Rules gds lib) rest fault bad)

pub circuit_answers : {A : Type 0} (gds lib : List ℕ) (layout : WideLayout) (view : LibraryView)
    (result : Result A Fault) → IsRead gds layout → library.SaysLibrary lib view
    → IfErr result (IsBroken (wide_flat layout) (limits_of view))
    → IfErr result (λ fault. (rest : List Stage) → Answers (circuit_then gds lib rest) (Some fault))
circuit_answers gds lib layout view (Ok x) is says bad = tt
circuit_answers gds lib layout view (Err fault) is says bad = rules_answer gds lib layout view fault is says
    (rule_is_wrong gds lib layout view fault is.read says bad)

pub circuits_made : (gds lib : List ℕ) (layout : WideLayout) (view : LibraryView) (result : Result CircuitView Fault)
    → IsRead gds layout → library.SaysLibrary lib view → IfOk result (IsRuled (wide_flat layout) (limits_of view))
    → IfOk result (MakesCircuit gds lib)
circuits_made gds lib layout view (Ok circuit) is says ruled =
    circuit_is_made gds lib layout view circuit is.read says ruled
circuits_made gds lib layout view (Err fault) is says ruled = tt

pub circuit_is_well : (one_layout : (bytes : List ℕ) (layout other : WideLayout) → IsWideStream bytes layout
    → IsWideStream bytes other → layout ≡ other)
    (gds lib : List ℕ) (layout : WideLayout) (view : LibraryView) (result : Result CircuitView Fault)
    → IsRead gds layout → library.SaysLibrary lib view → IfOk result (IsRuled (wide_flat layout) (limits_of view))
    → OnOk result (IsFirst (circuit_stages gds lib) None)
circuit_is_well one_layout gds lib layout view (Ok circuit) is says ruled = (
  is.stream,
  (
    is.size,
    (
      says_no_cells_fault lib view says,
      (rules_none one_layout gds lib circuit (circuit_is_made gds lib layout view circuit is.read says ruled), tt),
    ),
  ),
)
circuit_is_well one_layout gds lib layout view (Err fault) is says ruled = tt

pub words_are_well : (gds lib text : List ℕ) → IsFirst (circuit_stages gds lib) None
    → FindsNone (stage.Words gds lib text) → IsFirst (judging_stages gds lib text) None
words_are_well gds lib text before none = (before.0, (before.1.0, (before.1.1.0, (before.1.1.1.0, (none, tt)))))

pub misworded_answers : (gds lib text : List ℕ) (circuit : CircuitView) (line : ℕ) → MakesCircuit gds lib circuit
    → IsFirst (circuit_stages gds lib) None → IsBadLine circuit.inputs text line
    → Answers (judging_stages gds lib text) (Some (BadWords line))
misworded_answers gds lib text circuit line makes before bad =
    past_all (circuit_stages gds lib) (stage.Words gds lib text ∷ []) (Some (BadWords line)) before
    (found (stage.Words gds lib text) [] (BadWords line) (record { circuit = circuit; makes = makes; bad = bad }))

pub is_sound : (gds lib text : List ℕ) (circuit : CircuitView) → MakesCircuit gds lib circuit
    → SaysWords circuit.inputs text → IsSound gds lib text circuit
is_sound gds lib text circuit makes says = record { makes = makes; says = says }

pub ruleset judges = cells_fault
