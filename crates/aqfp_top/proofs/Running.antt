-- From what the steps of a command hear and print to how its run ends.
use Rattle.std.proofs.Common.{ℕ, ◌≡◌, ◌≤◌, Bool, List, [], ◌∷◌, length, Option, Some, None, Result, Ok, Err, IfOk, IfErr}
use Rattle.std.proofs.Common.{OnOk, All, refl, ap, subst, inl, inr, ◌∙◌}
use Rattle.std.specs.Result.{result_err}
use Rattle.aq_base.specs.declared.store.StoreRefusal.TheVariants as store
use Rattle.aq_base.specs.History.{Event, Loaded}
use Rattle.aq_base.specs.Outside.{Outside}
use Rattle.aq_base.specs.Output.{Output}
use Rattle.gds_records.specs.Writing.{bytes_of}
use Rattle.blif_flat.specs.BlifText.{blif_text}
use Rattle.circuit_extracted.specs.Circuits.{CircuitView, KeepsFacts}
use Rattle.decide.specs.declared.verdict.Verdict.{Verdict}
use Rattle.text_answers.specs.Counts.{counts_line, counts_text}
use Rattle.text_answers.specs.WordsText.{words_of, SaysWords}
use Rattle.aqfp_top.specs.Words.{word_at, IsMakeBy, IsVerify, IsTrace, IsEqual, IsWrite, IsReport, IsShapesOf}
use Rattle.aqfp_top.specs.Words.{IsSampleOf, IsOfForm, HasForm}
use Rattle.aqfp_top.specs.Loads.{net_limit, lib_limit, gds_limit, words_limit}
use Rattle.aqfp_top.specs.Loads.{build_loads, check_loads, equal_loads, write_loads}
use Rattle.aqfp_top.specs.Due.{design_stages, circuit_stages, judging_stages, comparing_stages, showing_stages}
use Rattle.aqfp_top.specs.Due.{sample_stages}
use Rattle.aqfp_top.specs.Checks.{MakesCircuit, text_of}
use Rattle.aqfp_top.specs.Comparing.{HasVerdict, verdict_text}
use Rattle.aqfp_top.specs.Reported as reported
use Rattle.aqfp_top.specs.Shown.{AreShapes}
use Rattle.aqfp_top.specs.Stages.{IsFirst, Answers}
use Rattle.aqfp_top.specs.Histories.{loaded, loaded_three, stored}
use Rattle.aqfp_top.specs.Printed.{TextPrints, PrintsFirst}
use Rattle.aqfp_top.specs.Refusals.{HearsRefusal, RefusesOne}
use Rattle.aqfp_top.specs.DueTexts.{IsDue, IsMadeBy, IsCheckOf}
use Rattle.aqfp_top.specs.Runs.{loads_of, AreWithin, given, stages_by, Delivers, StoresNot, FailsToStore, DoesNothing}
use Rattle.aqfp_top.specs.Runs.{Ends, RunsAs, HearsRun}
use Rattle.aqfp_top.specs.Code.Running.{ReadsDue, checking, IsNoWrite, IsOutAlone}
use Rattle.aqfp_top.specs.Code.Building.{IsStoreFault}
use Rattle.aqfp_top.specs.Code.Checking.{IsCircuitFault, IsJudgingFault}
use Rattle.aqfp_top.specs.Code.Comparing.{IsComparingFault}
use Rattle.aqfp_top.specs.Code.Printing.{PrintsText}
use Rattle.aqfp_top.specs.Code.Reporting.{IsPrintingFault, IsShowingFault}
use Rattle.aqfp_top.specs.Code.Sampling.{IsSampleOfBits, text_in, IsMakingFault}
use Rattle.aqfp_top.specs.Code.Designing.{MakesChip, IsDesignFault}
use Rattle.aqfp_top.specs.Code.Storing.{Stores}
use Rattle.aqfp_top.specs.declared.planner.Planner.{Planner}
use Rattle.aqfp_top.specs.declared.check.Printing.{Printing}
use Rattle.aqfp_top.specs.declared.check.Printing.TheVariants as printing
use Rattle.aqfp_top.specs.declared.design.Chip.{Chip}
use Rattle.aqfp_top.specs.declared.sample.SampleResult.{SampleResult}
use Rattle.aqfp_top.specs.declared.words.Form.{Form}
use Rattle.aqfp_top.specs.declared.words.Form.TheVariants.{Make, Verify, Trace, Equal, Write, Report, Shapes, Sample}
use Rattle.aqfp_top.specs.declared.words.Form.TheVariants.{Wrong}
use Rattle.aqfp_top.specs.declared.fault.WriteCall.TheVariants.{Create, Append, Close, Out}
use Rattle.aqfp_top.specs.declared.fault.Fault.{Fault}
use Rattle.aqfp_top.specs.declared.fault.Fault.TheVariants.{Usage, WriteFault, Memory}
use Rattle.aqfp_top.proofs.OutEnds.{each_text, text_only}
use Rattle.aqfp_top.proofs.Printing.{out_answers}
use Rattle.aqfp_top.proofs.Storing.{stores_history, stores_refused, stores_only}
use Rattle.aqfp_top.proofs.EachFault.{each_store}
use Rattle.aqfp_top.proofs.Steps as steps
use Rattle.aqfp_top.proofs.Sampling.{sampled}

-- ---- loads

-- a refused load ends the run
pub refused_runs : (form : Form) (history history' : List Event) (words : List (List ℕ)) (out : Output) (fault : Fault)
    → RefusesOne (loads_of form) words history history' fault
    → RunsAs form history history' words out out (Some fault)
unfolding RunsAs
refused_runs form history history' words out fault refused = inl (record { refuses = refused; silent = refl })

-- the loads gave texts, and the work on them ended so
pub judged_runs : (form : Form) (history now history' : List Event) (words texts texts' : List (List ℕ))
    (out out' : Output) (answer : Option Fault) → AreWithin (loads_of form) texts
    → now ≡ given history words (loads_of form) texts → texts' ≡ texts → Answers (stages_by form texts') answer
    → Ends (IsDue form texts') now history' words out out' answer
    → RunsAs form history history' words out out' answer
unfolding RunsAs
judged_runs form history now history' words texts texts' out out' answer fit is same answers ends =
    inr (record {
      texts = texts;
      fit = fit;
      answers = subst (λ t. Answers (stages_by form t) answer) same answers;
      ends = subst (λ t. Ends (IsDue form t) (given history words (loads_of form) texts) history' words out out' answer)
          same (subst (λ h. Ends (IsDue form texts') h history' words out out' answer) is ends);
    })

-- ---- before anything is stored or printed

pub circuit_no_write : (fault : Fault) → IsCircuitFault fault → IsNoWrite fault
circuit_no_write (WriteFault call) only = absurd only
circuit_no_write _ only = tt

pub judging_no_write : (fault : Fault) → IsJudgingFault fault → IsNoWrite fault
judging_no_write (WriteFault call) only = absurd only
judging_no_write _ only = tt

pub comparing_no_write : (fault : Fault) → IsComparingFault fault → IsNoWrite fault
comparing_no_write (WriteFault call) only = absurd only
comparing_no_write _ only = tt

pub making_no_write : (fault : Fault) → IsMakingFault fault → IsNoWrite fault
making_no_write (WriteFault call) only = absurd only
making_no_write _ only = tt

pub design_no_write : (planner : Planner) (fault : Fault) → IsDesignFault planner fault → IsNoWrite fault
design_no_write planner (WriteFault call) only = absurd only
design_no_write planner _ only = tt

idle_ends : (IsWanted : Option (List ℕ) → List ℕ → Type 0) (history history' : List Event) (words : List (List ℕ))
    (out out' : Output) (fault : Fault) → IsNoWrite fault → DoesNothing history history' out out'
    → Ends IsWanted history history' words out out' (Some fault)
idle_ends IsWanted history history' words out out' (WriteFault call) unwritten idle = absurd unwritten
idle_ends IsWanted history history' words out out' Memory unwritten idle = inl idle
idle_ends IsWanted history history' words out out' _ unwritten idle = idle

-- the texts have this fault
pub wrong_runs : (form : Form) (history history' : List Event) (words texts texts' : List (List ℕ)) (out : Output)
    (fault : Fault) → AreWithin (loads_of form) texts → history' ≡ given history words (loads_of form) texts
    → texts' ≡ texts → IsNoWrite fault → Answers (stages_by form texts') (Some fault)
    → RunsAs form history history' words out out (Some fault)
wrong_runs form history history' words texts texts' out fault fit is same unwritten answers =
    judged_runs form history history' history' words texts texts' out out (Some fault) fit is same answers
    (idle_ends (IsDue form texts') history' history' words out out fault unwritten (record { same = refl; silent = refl }))

-- ---- printing

delivers : (IsWanted : Option (List ℕ) → List ℕ → Type 0) (history history' : List Event) (words : List (List ℕ))
    (text : List ℕ) (IsPrinted : List ℕ → Type 0) → IsWanted None text → history' ≡ history → IsPrinted text
    → Delivers IsWanted history history' words IsPrinted
delivers IsWanted history history' words text IsPrinted due is printed =
    record { file = None; text = text; due = due; history_is = is; printed = printed }

printed_ends : (IsWanted : Option (List ℕ) → List ℕ → Type 0) (history history' : List Event)
    (words : List (List ℕ)) (text : List ℕ) (out out' : Output) (result : Result (Unit {0}) Fault)
    → IsWanted None text → history' ≡ history → PrintsText text out out' result
    → Ends IsWanted history history' words out out' (result_err result)
printed_ends IsWanted history history' words text out out' result due is prints =
    each_text (λ r. Ends IsWanted history history' words out out' (result_err r)) text out out'
    (delivers IsWanted history history' words text _ due is)
    (delivers IsWanted history history' words text (PrintsFirst store.Failed out out') due is)
    (λ p. inr (inr (delivers IsWanted history history' words text (PrintsFirst store.Memory out out') due is p)))
    result prints

-- nothing is wrong with the texts, and this is printed of them
pub printed_runs : (form : Form) (history history' : List Event) (words texts texts' : List (List ℕ)) (text : List ℕ)
    (out out' : Output) (result : Result (Unit {0}) Fault) → AreWithin (loads_of form) texts
    → history' ≡ given history words (loads_of form) texts → texts' ≡ texts → IsFirst (stages_by form texts') None
    → IsDue form texts' None text → PrintsText text out out' result
    → RunsAs form history history' words out out' (result_err result)
printed_runs form history history' words texts texts' text out out' result fit is same none due prints =
    judged_runs form history history' history' words texts texts' out out' (result_err result) fit is same
    (out_answers (stages_by form texts') result none (text_only text out out' result prints))
    (printed_ends (IsDue form texts') history' history' words text out out' result due refl prints)

text_ends : (Means : List ℕ → Type 0) (IsWanted : Option (List ℕ) → List ℕ → Type 0) (history : List Event)
    (words : List (List ℕ)) (out out' : Output) (answer : Option Fault)
    → ((text : List ℕ) → Means text → IsWanted None text) → IsOutAlone answer → TextPrints Means out out' answer
    → Ends IsWanted history history words out out' answer
text_ends Means IsWanted history words out out' None due alone p =
    delivers IsWanted history history words p.text _ (due p.text p.means) refl p.printed
text_ends Means IsWanted history words out out' (Some (WriteFault Out)) due alone p =
    delivers IsWanted history history words p.text _ (due p.text p.means) refl p.printed
text_ends Means IsWanted history words out out' (Some (WriteFault Create)) due alone p = cc
text_ends Means IsWanted history words out out' (Some (WriteFault Append)) due alone p = cc
text_ends Means IsWanted history words out out' (Some (WriteFault Close)) due alone p = cc
text_ends Means IsWanted history words out out' (Some Memory) due alone (inl same) =
    inl (record { same = refl; silent = same })
text_ends Means IsWanted history words out out' (Some Memory) due alone (inr p) =
    inr (inr (delivers IsWanted history history words p.text _ (due p.text p.means) refl p.printed))
text_ends Means IsWanted history words out out' (Some _) due alone same = record { same = refl; silent = same }

-- the texts may answer this, and what they mean was printed so far
pub text_runs : (form : Form) (history history' : List Event) (words texts texts' : List (List ℕ))
    (Means : List ℕ → Type 0) (out out' : Output) (answer : Option Fault) → AreWithin (loads_of form) texts
    → history' ≡ given history words (loads_of form) texts → texts' ≡ texts → Answers (stages_by form texts') answer
    → ((text : List ℕ) → Means text → IsDue form texts' None text) → IsOutAlone answer
    → TextPrints Means out out' answer → RunsAs form history history' words out out' answer
text_runs form history history' words texts texts' Means out out' answer fit is same answers due alone prints =
    judged_runs form history history' history' words texts texts' out out' answer fit is same answers
    (text_ends Means (IsDue form texts') history' words out out' answer due alone prints)

pub printing_alone : (result : Result (Unit {0}) Fault) → IfErr result IsPrintingFault → IsOutAlone (result_err result)
printing_alone (Ok x) only = tt
printing_alone (Err (WriteFault Out)) only = refl
printing_alone (Err (WriteFault Create)) only = absurd only
printing_alone (Err (WriteFault Append)) only = absurd only
printing_alone (Err (WriteFault Close)) only = absurd only
printing_alone (Err _) only = tt

pub showing_alone : (result : Result (Unit {0}) Fault) → IfErr result IsShowingFault → IsOutAlone (result_err result)
showing_alone (Ok x) only = tt
showing_alone (Err (WriteFault Out)) only = refl
showing_alone (Err (WriteFault Create)) only = absurd only
showing_alone (Err (WriteFault Append)) only = absurd only
showing_alone (Err (WriteFault Close)) only = absurd only
showing_alone (Err _) only = tt

-- ---- storing, and then printing

-- the texts were read, and the work on what is due of them ended so
read_runs : (form : Form) (history now history' : List Event) (words : List (List ℕ)) (bytes text : List ℕ)
    (out out' : Output) (answer : Option Fault) → (reads : ReadsDue form history now words bytes text)
    → Answers (stages_by form reads.texts) answer
    → Ends (IsDue form reads.texts) now history' words out out' answer
    → RunsAs form history history' words out out' answer
read_runs form history now history' words bytes text out out' answer reads answers ends =
    judged_runs form history now history' words reads.texts reads.texts out out' answer reads.fit reads.history_is refl
    answers ends

stores_not : (IsWanted : Option (List ℕ) → List ℕ → Type 0) (now history' : List Event) (words : List (List ℕ))
    (bytes text name : List ℕ) (out : Output) (fault : Fault) → IsWanted (Some bytes) text → name ≡ word_at words 3
    → FailsToStore now history' name bytes fault → StoresNot IsWanted now history' words out out fault
stores_not IsWanted now history' words bytes text name out fault due same fails = record {
  bytes = bytes;
  text = text;
  due = due;
  fails = subst (λ n. FailsToStore now history' n bytes fault) same fails;
  silent = refl;
}

-- storing was refused
pub store_runs : (form : Form) (history : List Event) (now o' : Outside) (words : List (List ℕ))
    (name bytes text : List ℕ) (out : Output) (fault : Fault) → ReadsDue form history now.history words bytes text
    → name ≡ word_at words 3 → Stores name bytes now o' (Err fault)
    → RunsAs form history o'.history words out out (Some fault)
store_runs form history now o' words name bytes text out fault reads same stores =
    let only : IsStoreFault fault = stores_only name bytes now o' (Err fault) stores in
    let wanted = IsDue form reads.texts in
    read_runs form history now.history o'.history words bytes text out out (Some fault) reads
    (each_store (λ f. Answers (stages_by form reads.texts) (Some f)) reads.none reads.none reads.none tt fault only)
    (each_store (λ f. FailsToStore now.history o'.history name bytes f
    → Ends wanted now.history o'.history words out out (Some f))
    (stores_not wanted now.history o'.history words bytes text name out (WriteFault Create) reads.due same)
    (stores_not wanted now.history o'.history words bytes text name out (WriteFault Append) reads.due same)
    (stores_not wanted now.history o'.history words bytes text name out (WriteFault Close) reads.due same)
    (λ fails. inr (inl (stores_not wanted now.history o'.history words bytes text name out Memory reads.due same fails)))
    fault only (stores_refused name bytes now o' (Err fault) stores))

stored_ends : (IsWanted : Option (List ℕ) → List ℕ → Type 0) (now history' : List Event) (words : List (List ℕ))
    (bytes text : List ℕ) (out out' : Output) (result : Result (Unit {0}) Fault) → IsWanted (Some bytes) text
    → history' ≡ stored now (word_at words 3) bytes → PrintsText text out out' result
    → Ends IsWanted now history' words out out' (result_err result)
stored_ends IsWanted now history' words bytes text out out' result due is prints =
    each_text (λ r. Ends IsWanted now history' words out out' (result_err r)) text out out'
    (λ p. record { file = Some bytes; text = text; due = due; history_is = is; printed = p })
    (λ p. record { file = Some bytes; text = text; due = due; history_is = is; printed = p })
    (λ p. inr (inr (record { file = Some bytes; text = text; due = due; history_is = is; printed = p }))) result prints

-- it was stored, and the text was printed so far
pub stored_runs : (form : Form) (history : List Event) (now o' : Outside) (words : List (List ℕ))
    (name bytes text text' : List ℕ) (out out' : Output) (done : Unit {0}) (result : Result (Unit {0}) Fault)
    → ReadsDue form history now.history words bytes text → name ≡ word_at words 3
    → Stores name bytes now o' (Ok done) → text' ≡ text → PrintsText text' out out' result
    → RunsAs form history o'.history words out out' (result_err result)
stored_runs form history now o' words name bytes text text' out out' done result reads same stores is prints =
    let whole = subst (λ t. PrintsText t out out' result) is prints in
    read_runs form history now.history o'.history words bytes text out out' (result_err result) reads
    (out_answers (stages_by form reads.texts) result reads.none (text_only text out out' result whole))
    (stored_ends (IsDue form reads.texts) now.history o'.history words bytes text out out' result reads.due
    (stores_history name bytes now o' (Ok done) stores ∙ ap (λ n. stored now.history n bytes) same) whole)

-- ---- making a chip

made_due : (planner : Planner) (net lib : List ℕ) (chip : Chip) → MakesChip planner net lib chip
    → IsMadeBy planner net lib (bytes_of chip.layout) (counts_text chip.counts.rows chip.counts.cells chip.counts.wires)
made_due planner net lib chip makes = record {
  equations = makes.equations;
  cells = makes.cells;
  says = makes.says;
  chip = makes.made.placed;
  of_net = makes.made.of_net;
  planned = makes.made.planned;
  bytes_are = makes.made.drawn.stream;
  text_is = steps.same_counts makes.made.placed makes.cells chip makes.made.drawn;
}

pub well_made : (planner : Planner) (history history' : List Event) (words : List (List ℕ))
    (net lib net' lib' : List ℕ) (result : Result Chip Fault)
    → history' ≡ loaded history words net lib → length net ≤ net_limit → length lib ≤ lib_limit
    → net' ≡ net → lib' ≡ lib → OnOk result (IsFirst (design_stages planner net' lib') None)
    → IfOk result (MakesChip planner net' lib')
    → IfOk result (λ chip. ReadsDue (Make planner) history history' words (bytes_of chip.layout)
    (counts_text chip.counts.rows chip.counts.cells chip.counts.wires))
well_made planner history history' words net lib net' lib' (Ok chip) is a b n l well makes = record {
  texts = net ∷ lib ∷ [];
  fit = (a, (b, tt));
  history_is = is;
  none = subst (λ x. IsFirst (design_stages planner x lib) None) n
      (subst (λ x. IsFirst (design_stages planner net' x) None) l well);
  due = made_due planner net lib chip
      (subst (λ x. MakesChip planner x lib chip) n (subst (λ x. MakesChip planner net' x chip) l makes));
}
well_made planner history history' words net lib net' lib' (Err fault) is a b n l well makes = tt

pub badly_made : (planner : Planner) (history history' : List Event) (words : List (List ℕ))
    (net lib net' lib' : List ℕ) (result : Result Chip Fault)
    → history' ≡ loaded history words net lib → length net ≤ net_limit → length lib ≤ lib_limit
    → net' ≡ net → lib' ≡ lib → IfErr result (IsDesignFault planner)
    → IfErr result (λ fault. Answers (design_stages planner net' lib') (Some fault))
    → IfErr result (λ fault. (out : Output)
    → RunsAs (Make planner) history history' words out out (Some fault))
badly_made planner history history' words net lib net' lib' (Ok chip) is a b n l only bad = tt
badly_made planner history history' words net lib net' lib' (Err fault) is a b n l only bad = λ out.
    wrong_runs (Make planner) history history' words (net ∷ lib ∷ []) (net' ∷ lib' ∷ []) out fault (a, (b, tt)) is
    (λ i. n i ∷ l i ∷ []) (design_no_write planner fault only) bad

-- ---- two texts of a chip

pub netlist_due : (history history' : List Event) (words : List (List ℕ)) (gds lib lib' : List ℕ)
    (circuit : CircuitView) → history' ≡ loaded history words gds lib → length gds ≤ gds_limit
    → length lib ≤ lib_limit → lib' ≡ lib → IsFirst (circuit_stages gds lib') None → MakesCircuit gds lib' circuit
    → KeepsFacts circuit → ReadsDue Write history history' words (blif_text circuit) (counts_line circuit)
netlist_due history history' words gds lib lib' circuit is a b l well makes keeps = record {
  texts = gds ∷ lib ∷ [];
  fit = (a, (b, tt));
  history_is = is;
  none = subst (λ x. IsFirst (circuit_stages gds x) None) l well;
  due = record {
    circuit = circuit;
    makes = subst (λ x. MakesCircuit gds x circuit) l makes;
    keeps = keeps;
    bytes_are = refl;
    text_is = refl;
  };
}

pub wrong_netlist : (history history' : List Event) (words : List (List ℕ)) (gds lib lib' : List ℕ) (fault : Fault)
    → history' ≡ loaded history words gds lib → length gds ≤ gds_limit → length lib ≤ lib_limit
    → lib' ≡ lib → IsNoWrite fault → Answers (circuit_stages gds lib') (Some fault) → (out : Output)
    → RunsAs Write history history' words out out (Some fault)
wrong_netlist history history' words gds lib lib' fault is a b l unwritten bad out =
    wrong_runs Write history history' words (gds ∷ lib ∷ []) (gds ∷ lib' ∷ []) out fault (a, (b, tt)) is
    (λ i. gds ∷ l i ∷ []) unwritten bad

pub report_runs : (history history' : List Event) (words : List (List ℕ)) (gds lib lib' : List ℕ) (out out' : Output)
    (result : Result (Unit {0}) Fault) → history' ≡ loaded history words gds lib → length gds ≤ gds_limit
    → length lib ≤ lib_limit → lib' ≡ lib → Answers (circuit_stages gds lib') (result_err result)
    → IfErr result IsPrintingFault → TextPrints (reported.IsReport gds lib') out out' (result_err result)
    → RunsAs Report history history' words out out' (result_err result)
report_runs history history' words gds lib lib' out out' result is a b l answers only prints =
    text_runs Report history history' words (gds ∷ lib ∷ []) (gds ∷ lib' ∷ []) (reported.IsReport gds lib') out out'
    (result_err result) (a, (b, tt)) is (λ i. gds ∷ l i ∷ []) answers (λ text means. means)
    (printing_alone result only) prints

-- ---- one text, and none

pub shapes_run : (first second : ℕ) (history history' : List Event) (words : List (List ℕ)) (gds : List ℕ)
    (out out' : Output) (result : Result (Unit {0}) Fault) → history' ≡ Loaded (word_at words 1) gds ∷ history
    → length gds ≤ gds_limit → Answers (showing_stages gds first second) (result_err result)
    → IfErr result IsShowingFault → TextPrints (AreShapes gds first second) out out' (result_err result)
    → RunsAs (Shapes first second) history history' words out out' (result_err result)
shapes_run first second history history' words gds out out' result is fits answers only prints =
    text_runs (Shapes first second) history history' words (gds ∷ []) (gds ∷ []) (AreShapes gds first second) out out'
    (result_err result) (fits, tt) is refl answers (λ text means. means) (showing_alone result only) prints

pub refused_shapes : (first second : ℕ) (history history' : List Event) (words : List (List ℕ)) (out : Output)
    (fault : Fault) → HearsRefusal 1 gds_limit words history history' fault
    → RunsAs (Shapes first second) history history' words out out (Some fault)
unfolding RefusesOne
refused_shapes first second history history' words out fault refused =
    refused_runs (Shapes first second) history history' words out fault (inl refused)

pub wrong_sample : (bits : ℕ) (out : Output) (fault : Fault) → IsMakingFault fault
    → Answers (sample_stages bits) (Some fault) → (words : List (List ℕ)) (history : List Event)
    → RunsAs (Sample bits) history history words out out (Some fault)
wrong_sample bits out fault only bad words history =
    wrong_runs (Sample bits) history history words [] [] out fault tt refl refl (making_no_write fault only) bad

pub sample_runs : (bits : ℕ) (sample : SampleResult) (out out' : Output) (result : Result (Unit {0}) Fault)
    → IsFirst (sample_stages bits) None → IsSampleOfBits bits sample → PrintsText (text_in bits sample) out out' result
    → (words : List (List ℕ)) (history : List Event)
    → RunsAs (Sample bits) history history words out out' (result_err result)
sample_runs bits sample out out' result none is prints words history =
    printed_runs (Sample bits) history history words [] [] (text_in bits sample) out out' result tt refl refl none
    (sampled bits sample (λ text. text_in bits sample ≡ text) is refl) prints

-- ---- three texts

three : (gds lib third lib' third' : List ℕ) → lib' ≡ lib → third' ≡ third
    → (gds ∷ lib' ∷ third' ∷ []) ≡ (gds ∷ lib ∷ third ∷ [])
three gds lib third lib' third' l t = λ i. gds ∷ l i ∷ t i ∷ []

check_of : (printing : Printing) (gds lib text : List ℕ) (circuit : CircuitView) (given : List (List Bool))
    → MakesCircuit gds lib circuit → SaysWords circuit.inputs text → KeepsFacts circuit → given ≡ words_of text
    → All (λ word. length word ≡ circuit.inputs) given
    → IsCheckOf printing gds lib text (text_of printing circuit given)
check_of printing gds lib text circuit given makes says keeps same wide = record {
  circuit = circuit;
  sound = record { makes = makes; says = says };
  keeps = keeps;
  wide = subst (λ xs. All (λ word. length word ≡ circuit.inputs) xs) same wide;
  text_is = ap (text_of printing circuit) same;
}

pub check_runs : (printing : Printing) (history history' : List Event) (words : List (List ℕ))
    (gds lib text lib' text' : List ℕ) (circuit : CircuitView) (given : List (List Bool)) (out out' : Output)
    (result : Result (Unit {0}) Fault) → history' ≡ loaded_three history words gds lib text
    → length gds ≤ gds_limit → length lib ≤ lib_limit → length text ≤ words_limit → lib' ≡ lib → text' ≡ text
    → IsFirst (judging_stages gds lib' text') None → MakesCircuit gds lib' circuit
    → SaysWords circuit.inputs text' → KeepsFacts circuit → given ≡ words_of text'
    → All (λ word. length word ≡ circuit.inputs) given
    → PrintsText (text_of printing circuit given) out out' result
    → RunsAs (checking printing) history history' words out out' (result_err result)
check_runs printing.Answers history history' words gds lib text lib' text' circuit given out out' result is a b c l t
    none makes says keeps same wide prints =
    printed_runs Verify history history' words (gds ∷ lib ∷ text ∷ []) (gds ∷ lib' ∷ text' ∷ [])
    (text_of printing.Answers circuit given) out out' result (a, (b, (c, tt))) is (three gds lib text lib' text' l t)
    none (check_of printing.Answers gds lib' text' circuit given makes says keeps same wide) prints
check_runs printing.Fluxes history history' words gds lib text lib' text' circuit given out out' result is a b c l t
    none makes says keeps same wide prints =
    printed_runs Trace history history' words (gds ∷ lib ∷ text ∷ []) (gds ∷ lib' ∷ text' ∷ [])
    (text_of printing.Fluxes circuit given) out out' result (a, (b, (c, tt))) is (three gds lib text lib' text' l t)
    none (check_of printing.Fluxes gds lib' text' circuit given makes says keeps same wide) prints

pub wrong_check : (printing : Printing) (history history' : List Event) (words : List (List ℕ))
    (gds lib text lib' text' : List ℕ) (out : Output) (fault : Fault)
    → history' ≡ loaded_three history words gds lib text → length gds ≤ gds_limit → length lib ≤ lib_limit
    → length text ≤ words_limit → lib' ≡ lib → text' ≡ text → IsNoWrite fault
    → Answers (judging_stages gds lib' text') (Some fault)
    → RunsAs (checking printing) history history' words out out (Some fault)
wrong_check printing.Answers history history' words gds lib text lib' text' out fault is a b c l t unwritten bad =
    wrong_runs Verify history history' words (gds ∷ lib ∷ text ∷ []) (gds ∷ lib' ∷ text' ∷ []) out fault
    (a, (b, (c, tt))) is (three gds lib text lib' text' l t) unwritten bad
wrong_check printing.Fluxes history history' words gds lib text lib' text' out fault is a b c l t unwritten bad =
    wrong_runs Trace history history' words (gds ∷ lib ∷ text ∷ []) (gds ∷ lib' ∷ text' ∷ []) out fault
    (a, (b, (c, tt))) is (three gds lib text lib' text' l t) unwritten bad

pub equal_runs : (history history' : List Event) (words : List (List ℕ)) (gds lib net lib' net' : List ℕ)
    (verdict : Verdict) (out out' : Output) (result : Result (Unit {0}) Fault)
    → history' ≡ loaded_three history words gds lib net → length gds ≤ gds_limit → length lib ≤ lib_limit
    → length net ≤ words_limit → lib' ≡ lib → net' ≡ net → IsFirst (comparing_stages gds lib' net') None
    → HasVerdict gds lib' net' verdict → PrintsText (verdict_text verdict) out out' result
    → RunsAs Equal history history' words out out' (result_err result)
equal_runs history history' words gds lib net lib' net' verdict out out' result is a b c l t none found prints =
    printed_runs Equal history history' words (gds ∷ lib ∷ net ∷ []) (gds ∷ lib' ∷ net' ∷ []) (verdict_text verdict)
    out out' result (a, (b, (c, tt))) is (three gds lib net lib' net' l t) none
    (record { verdict = verdict; found = found; text_is = refl }) prints

pub wrong_equal : (history history' : List Event) (words : List (List ℕ)) (gds lib net lib' net' : List ℕ)
    (out : Output) (fault : Fault) → history' ≡ loaded_three history words gds lib net → length gds ≤ gds_limit
    → length lib ≤ lib_limit → length net ≤ words_limit → lib' ≡ lib → net' ≡ net → IsNoWrite fault
    → Answers (comparing_stages gds lib' net') (Some fault)
    → RunsAs Equal history history' words out out (Some fault)
wrong_equal history history' words gds lib net lib' net' out fault is a b c l t unwritten bad =
    wrong_runs Equal history history' words (gds ∷ lib ∷ net ∷ []) (gds ∷ lib' ∷ net' ∷ []) out fault
    (a, (b, (c, tt))) is (three gds lib net lib' net' l t) unwritten bad

-- ---- loads that are refused, by command

pub refused_check : (printing : Printing) (history history' : List Event) (words : List (List ℕ)) (out : Output)
    (fault : Fault) → RefusesOne check_loads words history history' fault
    → RunsAs (checking printing) history history' words out out (Some fault)
refused_check printing.Answers history history' words out fault refused =
    refused_runs Verify history history' words out fault refused
refused_check printing.Fluxes history history' words out fault refused =
    refused_runs Trace history history' words out fault refused

pub refused_make : (planner : Planner) (history history' : List Event) (words : List (List ℕ)) (fault : Fault)
    → RefusesOne build_loads words history history' fault → (out : Output)
    → RunsAs (Make planner) history history' words out out (Some fault)
refused_make planner history history' words fault refused out =
    refused_runs (Make planner) history history' words out fault refused

pub refused_write : (history history' : List Event) (words : List (List ℕ)) (fault : Fault)
    → RefusesOne write_loads words history history' fault → (out : Output)
    → RunsAs Write history history' words out out (Some fault)
refused_write history history' words fault refused out =
    refused_runs Write history history' words out fault refused

pub refused_report : (history history' : List Event) (words : List (List ℕ)) (out : Output) (fault : Fault)
    → RefusesOne write_loads words history history' fault
    → RunsAs Report history history' words out out (Some fault)
refused_report history history' words out fault refused =
    refused_runs Report history history' words out fault refused

pub refused_equal : (history history' : List Event) (words : List (List ℕ)) (out : Output) (fault : Fault)
    → RefusesOne equal_loads words history history' fault
    → RunsAs Equal history history' words out out (Some fault)
refused_equal history history' words out fault refused =
    refused_runs Equal history history' words out fault refused

pub ruleset refusals = (refused_check, refused_make, refused_write, refused_report, refused_equal, refused_shapes)

-- ---- by the form of the words

pub form_runs : (form : Form) (words : List (List ℕ)) (history history' : List Event) (out out' : Output)
    (answer : Option Fault) → IsOfForm words form → RunsAs form history history' words out out' answer
    → HearsRun history history' words out out' answer
form_runs form words history history' out out' answer is runs = record { form = form; is_form = is; runs = runs }

pub make_form : (planner : Planner) (words : List (List ℕ)) (history history' : List Event) (out out' : Output)
    (answer : Option Fault) → IsMakeBy planner words → RunsAs (Make planner) history history' words out out' answer
    → HearsRun history history' words out out' answer
make_form planner words history history' out out' answer is runs =
    form_runs (Make planner) words history history' out out' answer is runs

pub verify_form : (words : List (List ℕ)) (history history' : List Event) (out out' : Output) (answer : Option Fault)
    → IsVerify words → RunsAs Verify history history' words out out' answer
    → HearsRun history history' words out out' answer
verify_form words history history' out out' answer is runs =
    form_runs Verify words history history' out out' answer is runs

pub trace_form : (words : List (List ℕ)) (history history' : List Event) (out out' : Output) (answer : Option Fault)
    → IsTrace words → RunsAs Trace history history' words out out' answer
    → HearsRun history history' words out out' answer
trace_form words history history' out out' answer is runs =
    form_runs Trace words history history' out out' answer is runs

pub equal_form : (words : List (List ℕ)) (history history' : List Event) (out out' : Output) (answer : Option Fault)
    → IsEqual words → RunsAs Equal history history' words out out' answer
    → HearsRun history history' words out out' answer
equal_form words history history' out out' answer is runs =
    form_runs Equal words history history' out out' answer is runs

pub write_form : (words : List (List ℕ)) (history history' : List Event) (out out' : Output) (answer : Option Fault)
    → IsWrite words → RunsAs Write history history' words out out' answer
    → HearsRun history history' words out out' answer
write_form words history history' out out' answer is runs =
    form_runs Write words history history' out out' answer is runs

pub report_form : (words : List (List ℕ)) (history history' : List Event) (out out' : Output) (answer : Option Fault)
    → IsReport words → RunsAs Report history history' words out out' answer
    → HearsRun history history' words out out' answer
report_form words history history' out out' answer is runs =
    form_runs Report words history history' out out' answer is runs

pub shapes_form : (words : List (List ℕ)) (first second : ℕ) (history history' : List Event) (out out' : Output)
    (answer : Option Fault) → IsShapesOf words first second
    → RunsAs (Shapes first second) history history' words out out' answer
    → HearsRun history history' words out out' answer
shapes_form words first second history history' out out' answer is runs =
    form_runs (Shapes first second) words history history' out out' answer is runs

pub sample_form : (words : List (List ℕ)) (bits : ℕ) (history : List Event) (out out' : Output)
    (answer : Option Fault) → IsSampleOf words bits
    → ((words : List (List ℕ)) (history : List Event) → RunsAs (Sample bits) history history words out out' answer)
    → HearsRun history history words out out' answer
sample_form words bits history out out' answer is runs =
    form_runs (Sample bits) words history history out out' answer is (runs words history)

pub usage_form : (words : List (List ℕ)) (history : List Event) (out : Output) → ¬ HasForm words
    → HearsRun history history words out out (Some Usage)
usage_form words history out unwritten =
    form_runs Wrong words history history out out (Some Usage) unwritten
    (judged_runs Wrong history history history words [] [] out out (Some Usage) tt refl refl (inl tt)
    (record { same = refl; silent = refl }))

pub ruleset forms = (
  make_form,
  verify_form,
  trace_form,
  equal_form,
  write_form,
  report_form,
  shapes_form,
  sample_form,
  usage_form,
)
