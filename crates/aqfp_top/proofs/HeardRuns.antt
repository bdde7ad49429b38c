-- What a run that ended well has done, by the form of its words.
use Rattle.std.proofs.Common.{ℕ, ◌≡◌, List, [], ◌∷◌, Option, Some, None, ap, subst, inl, inr, ◌∙◌}
use Rattle.aq_base.specs.History.{Event}
use Rattle.aq_base.specs.Output.{Output}
use Rattle.aq_base.specs.Output as output
use Rattle.blif_flat.specs.Written.{AnswersAsWritten}
use Rattle.circuit_extracted.specs.Circuits.{CircuitView, KeepsFacts}
use Rattle.aqfp_top.specs.Words.{word_at, IsOfForm, IsMakeBy, IsVerify, IsTrace, IsEqual, IsWrite, IsReport}
use Rattle.aqfp_top.specs.Words.{IsShapesOf, IsSampleOf}
use Rattle.aqfp_top.specs.Histories.{loaded, loaded_three, stored, BuiltHistory, CheckedHistory, ComparedHistory}
use Rattle.aqfp_top.specs.Histories.{HearsNetlist}
use Rattle.aqfp_top.specs.SampleHistories.{HearsSample}
use Rattle.aqfp_top.specs.Reported.{HearsReport}
use Rattle.aqfp_top.specs.Shown.{HearsShapes}
use Rattle.aqfp_top.specs.DueTexts.{IsDue, IsCheckOf}
use Rattle.aqfp_top.specs.Runs.{loads_of, AreWithin, given, Delivers, after_storing, RunsAs, HearsRun}
use Rattle.aqfp_top.specs.declared.planner.Planner.{Planner}
use Rattle.aqfp_top.specs.declared.check.Printing.{Printing}
use Rattle.aqfp_top.specs.declared.check.Printing.TheVariants as printing
use Rattle.aqfp_top.specs.declared.words.Form.{Form}
use Rattle.aqfp_top.specs.declared.words.Form.TheVariants.{Make, Verify, Trace, Equal, Write, Report, Shapes, Sample}
use Rattle.aqfp_top.specs.declared.fault.Fault.{Fault}
use Rattle.aqfp_top.proofs.Forms.{one_form}

-- the work on the texts of this form is done
abbrev Done : Form → List Event → List Event → List (List ℕ) → Output → Output → List (List ℕ) → Type 0
Done form history history' words out out' texts =
    Delivers (IsDue form texts) (given history words (loads_of form) texts) history' words
    (λ text. out' ≡ output.printed text out)

-- a run of these words that ended well
record Well (form : Form) (history history' : List Event) (words : List (List ℕ)) (out out' : Output) : Type 0 where
  texts : List (List ℕ)
  fit : AreWithin (loads_of form) texts
  done : Done form history history' words out out' texts

-- the run is one of this form
pub as_form : (form : Form) (history history' : List Event) (words : List (List ℕ)) (out out' : Output)
    (answer : Option Fault) → IsOfForm words form → HearsRun history history' words out out' answer
    → RunsAs form history history' words out out' answer
as_form form history history' words out out' answer is hears =
    subst (λ f. RunsAs f history history' words out out' answer)
    (one_form words hears.form form hears.is_form is) hears.runs

well : (form : Form) (history history' : List Event) (words : List (List ℕ)) (out out' : Output)
    → RunsAs form history history' words out out' None → Well form history history' words out out'
unfolding RunsAs
well form history history' words out out' (inl refused) = absurd refused.refuses
well form history history' words out out' (inr judges) =
    record { texts = judges.texts; fit = judges.fit; done = judges.ends }

ran_well : (form : Form) (history history' : List Event) (words : List (List ℕ)) (out out' : Output)
    → IsOfForm words form → HearsRun history history' words out out' None
    → Well form history history' words out out'
ran_well form history history' words out out' is hears =
    well form history history' words out out' (as_form form history history' words out out' None is hears)

-- ---- a chip was made

made : (planner : Planner) (history history' : List Event) (words : List (List ℕ)) (out out' : Output)
    (texts : List (List ℕ)) → AreWithin (loads_of (Make planner)) texts → (file : Option (List ℕ)) (text : List ℕ)
    → IsDue (Make planner) texts file text
    → history' ≡ after_storing (given history words (loads_of (Make planner)) texts) words file
    → out' ≡ output.printed text out → BuiltHistory planner history history' words out out'
made planner history history' words out out' (net ∷ lib ∷ []) fit (Some bytes) text due is prints = record {
  net = net;
  lib = lib;
  net_fits = fit.0;
  lib_fits = fit.1.0;
  equations = due.equations;
  cells = due.cells;
  says = due.says;
  chip = due.chip;
  of_net = due.of_net;
  planned = due.planned;
  is = is ∙ ap (λ b. stored (loaded history words net lib) (word_at words 3) b) due.bytes_are;
  printed = prints ∙ ap (λ t. output.printed t out) due.text_is;
}
made planner history history' words out out' (net ∷ lib ∷ []) fit None text due is prints = absurd due
made planner history history' words out out' [] fit file text due is prints = absurd fit
made planner history history' words out out' (net ∷ []) fit file text due is prints = absurd fit.1
made planner history history' words out out' (net ∷ lib ∷ third ∷ texts) fit file text due is prints = absurd fit.1.1

pub built : (planner : Planner) (history history' : List Event) (words : List (List ℕ)) (out out' : Output)
    → IsMakeBy planner words → HearsRun history history' words out out' None
    → BuiltHistory planner history history' words out out'
built planner history history' words out out' is hears =
    let w = ran_well (Make planner) history history' words out out' is hears in
    let d = w.done in
    made planner history history' words out out' w.texts w.fit d.file d.text d.due d.history_is d.printed

-- ---- a check

checked_by : (printing : Printing) (history history' : List Event) (words : List (List ℕ)) (out out' : Output)
    (gds lib given text : List ℕ) → IsCheckOf printing gds lib given text
    → history' ≡ loaded_three history words gds lib given → out' ≡ output.printed text out
    → CheckedHistory printing history history' words out out'
checked_by printing history history' words out out' gds lib given text due is prints = record {
  gds = gds;
  lib = lib;
  text = given;
  circuit = due.circuit;
  sound = due.sound;
  keeps = due.keeps;
  wide = due.wide;
  is = is;
  printed = prints ∙ ap (λ t. output.printed t out) due.text_is;
}

verified_so : (history history' : List Event) (words : List (List ℕ)) (out out' : Output)
    (texts : List (List ℕ)) (file : Option (List ℕ)) (text : List ℕ) → AreWithin (loads_of Verify) texts
    → IsDue Verify texts file text
    → history' ≡ after_storing (given history words (loads_of Verify) texts) words file
    → out' ≡ output.printed text out → CheckedHistory printing.Answers history history' words out out'
verified_so history history' words out out' (gds ∷ lib ∷ third ∷ []) None text fit due is prints =
    checked_by printing.Answers history history' words out out' gds lib third text due is prints
verified_so history history' words out out' (gds ∷ lib ∷ third ∷ []) (Some bytes) text fit due is prints = absurd due
verified_so history history' words out out' [] file text fit due is prints = absurd fit
verified_so history history' words out out' (gds ∷ []) file text fit due is prints = absurd fit.1
verified_so history history' words out out' (gds ∷ lib ∷ []) file text fit due is prints = absurd fit.1.1
verified_so history history' words out out' (gds ∷ lib ∷ third ∷ more ∷ texts) file text fit due is prints =
    absurd fit.1.1.1

pub verified : (history history' : List Event) (words : List (List ℕ)) (out out' : Output) → IsVerify words
    → HearsRun history history' words out out' None
    → CheckedHistory printing.Answers history history' words out out'
verified history history' words out out' is hears =
    let w = ran_well Verify history history' words out out' is hears in
    let d = w.done in
    verified_so history history' words out out' w.texts d.file d.text w.fit d.due d.history_is d.printed

traced_so : (history history' : List Event) (words : List (List ℕ)) (out out' : Output)
    (texts : List (List ℕ)) (file : Option (List ℕ)) (text : List ℕ) → AreWithin (loads_of Trace) texts
    → IsDue Trace texts file text
    → history' ≡ after_storing (given history words (loads_of Trace) texts) words file
    → out' ≡ output.printed text out → CheckedHistory printing.Fluxes history history' words out out'
traced_so history history' words out out' (gds ∷ lib ∷ third ∷ []) None text fit due is prints =
    checked_by printing.Fluxes history history' words out out' gds lib third text due is prints
traced_so history history' words out out' (gds ∷ lib ∷ third ∷ []) (Some bytes) text fit due is prints = absurd due
traced_so history history' words out out' [] file text fit due is prints = absurd fit
traced_so history history' words out out' (gds ∷ []) file text fit due is prints = absurd fit.1
traced_so history history' words out out' (gds ∷ lib ∷ []) file text fit due is prints = absurd fit.1.1
traced_so history history' words out out' (gds ∷ lib ∷ third ∷ more ∷ texts) file text fit due is prints =
    absurd fit.1.1.1

pub traced : (history history' : List Event) (words : List (List ℕ)) (out out' : Output) → IsTrace words
    → HearsRun history history' words out out' None
    → CheckedHistory printing.Fluxes history history' words out out'
traced history history' words out out' is hears =
    let w = ran_well Trace history history' words out out' is hears in
    let d = w.done in
    traced_so history history' words out out' w.texts d.file d.text w.fit d.due d.history_is d.printed

-- ---- a comparison

compared_so : (history history' : List Event) (words : List (List ℕ)) (out out' : Output)
    (texts : List (List ℕ)) (file : Option (List ℕ)) (text : List ℕ) → AreWithin (loads_of Equal) texts
    → IsDue Equal texts file text
    → history' ≡ after_storing (given history words (loads_of Equal) texts) words file
    → out' ≡ output.printed text out → ComparedHistory history history' words out out'
compared_so history history' words out out' (gds ∷ lib ∷ net ∷ []) None text fit due is prints = record {
  gds = gds;
  lib = lib;
  net = net;
  verdict = due.verdict;
  found = due.found;
  is = is;
  printed = prints ∙ ap (λ t. output.printed t out) due.text_is;
}
compared_so history history' words out out' (gds ∷ lib ∷ net ∷ []) (Some bytes) text fit due is prints = absurd due
compared_so history history' words out out' [] file text fit due is prints = absurd fit
compared_so history history' words out out' (gds ∷ []) file text fit due is prints = absurd fit.1
compared_so history history' words out out' (gds ∷ lib ∷ []) file text fit due is prints = absurd fit.1.1
compared_so history history' words out out' (gds ∷ lib ∷ net ∷ more ∷ texts) file text fit due is prints =
    absurd fit.1.1.1

pub compared : (history history' : List Event) (words : List (List ℕ)) (out out' : Output) → IsEqual words
    → HearsRun history history' words out out' None → ComparedHistory history history' words out out'
compared history history' words out out' is hears =
    let w = ran_well Equal history history' words out out' is hears in
    let d = w.done in
    compared_so history history' words out out' w.texts d.file d.text w.fit d.due d.history_is d.printed

-- ---- a netlist was written

written_so : (history history' : List Event) (words : List (List ℕ)) (out out' : Output)
    → ((circuit : CircuitView) → KeepsFacts circuit → AnswersAsWritten circuit)
    → (texts : List (List ℕ)) (file : Option (List ℕ)) (text : List ℕ) → AreWithin (loads_of Write) texts
    → IsDue Write texts file text
    → history' ≡ after_storing (given history words (loads_of Write) texts) words file
    → out' ≡ output.printed text out → HearsNetlist history history' words out out'
written_so history history' words out out' answers (gds ∷ lib ∷ []) (Some bytes) text fit due is prints = record {
  gds = gds;
  lib = lib;
  circuit = due.circuit;
  makes = due.makes;
  circuit_keeps = due.keeps;
  history_is = is ∙ ap (λ b. stored (loaded history words gds lib) (word_at words 3) b) due.bytes_are;
  answers = answers due.circuit due.keeps;
  printed = prints ∙ ap (λ t. output.printed t out) due.text_is;
}
written_so history history' words out out' answers (gds ∷ lib ∷ []) None text fit due is prints = absurd due
written_so history history' words out out' answers [] file text fit due is prints = absurd fit
written_so history history' words out out' answers (gds ∷ []) file text fit due is prints = absurd fit.1
written_so history history' words out out' answers (gds ∷ lib ∷ more ∷ texts) file text fit due is prints =
    absurd fit.1.1

pub written : (history history' : List Event) (words : List (List ℕ)) (out out' : Output)
    → ((circuit : CircuitView) → KeepsFacts circuit → AnswersAsWritten circuit) → IsWrite words
    → HearsRun history history' words out out' None → HearsNetlist history history' words out out'
written history history' words out out' answers is hears =
    let w = ran_well Write history history' words out out' is hears in
    let d = w.done in
    written_so history history' words out out' answers w.texts d.file d.text w.fit d.due d.history_is d.printed

-- ---- a report, shapes, and a sample

reported_so : (history history' : List Event) (words : List (List ℕ)) (out out' : Output)
    (texts : List (List ℕ)) (file : Option (List ℕ)) (text : List ℕ) → AreWithin (loads_of Report) texts
    → IsDue Report texts file text
    → history' ≡ after_storing (given history words (loads_of Report) texts) words file
    → out' ≡ output.printed text out → HearsReport history history' words out out'
reported_so history history' words out out' (gds ∷ lib ∷ []) None text fit due is prints = record {
  gds = gds;
  lib = lib;
  history_is = is;
  text = text;
  report = due;
  printed = prints;
}
reported_so history history' words out out' (gds ∷ lib ∷ []) (Some bytes) text fit due is prints = absurd due
reported_so history history' words out out' [] file text fit due is prints = absurd fit
reported_so history history' words out out' (gds ∷ []) file text fit due is prints = absurd fit.1
reported_so history history' words out out' (gds ∷ lib ∷ more ∷ texts) file text fit due is prints = absurd fit.1.1

pub reported : (history history' : List Event) (words : List (List ℕ)) (out out' : Output) → IsReport words
    → HearsRun history history' words out out' None → HearsReport history history' words out out'
reported history history' words out out' is hears =
    let w = ran_well Report history history' words out out' is hears in
    let d = w.done in
    reported_so history history' words out out' w.texts d.file d.text w.fit d.due d.history_is d.printed

shown_so : (first second : ℕ) (history history' : List Event) (words : List (List ℕ)) (out out' : Output)
    (texts : List (List ℕ)) (file : Option (List ℕ)) (text : List ℕ) → AreWithin (loads_of (Shapes first second)) texts
    → IsDue (Shapes first second) texts file text
    → history' ≡ after_storing (given history words (loads_of (Shapes first second)) texts) words file
    → out' ≡ output.printed text out → HearsShapes history history' words first second out out'
shown_so first second history history' words out out' (gds ∷ []) None text fit due is prints =
    record { gds = gds; history_is = is; text = text; shapes = due; printed = prints }
shown_so first second history history' words out out' (gds ∷ []) (Some bytes) text fit due is prints = absurd due
shown_so first second history history' words out out' [] file text fit due is prints = absurd fit
shown_so first second history history' words out out' (gds ∷ more ∷ texts) file text fit due is prints = absurd fit.1

pub shown : (first second : ℕ) (history history' : List Event) (words : List (List ℕ)) (out out' : Output)
    → IsShapesOf words first second → HearsRun history history' words out out' None
    → HearsShapes history history' words first second out out'
shown first second history history' words out out' is hears =
    let w = ran_well (Shapes first second) history history' words out out' is hears in
    let d = w.done in
    shown_so first second history history' words out out' w.texts d.file d.text w.fit d.due d.history_is d.printed

sampled_so : (bits : ℕ) (history history' : List Event) (words : List (List ℕ)) (out out' : Output)
    (texts : List (List ℕ)) (file : Option (List ℕ)) (text : List ℕ) → AreWithin (loads_of (Sample bits)) texts
    → IsDue (Sample bits) texts file text
    → history' ≡ after_storing (given history words (loads_of (Sample bits)) texts) words file
    → out' ≡ output.printed text out → HearsSample bits history history' out out'
sampled_so bits history history' words out out' [] None text fit due is prints = record {
  history_is = is;
  sampled = record {
    equations = due.equations;
    says = due.says;
    limits = due.limits;
    answers = due.answers;
    are_answers = due.are_answers;
    printed = prints ∙ ap (λ t. output.printed t out) due.printed;
  };
}
sampled_so bits history history' words out out' [] (Some bytes) text fit due is prints = absurd due
sampled_so bits history history' words out out' (more ∷ texts) file text fit due is prints = absurd fit

pub sampled : (bits : ℕ) (history history' : List Event) (words : List (List ℕ)) (out out' : Output)
    → IsSampleOf words bits → HearsRun history history' words out out' None
    → HearsSample bits history history' out out'
sampled bits history history' words out out' is hears =
    let w = ran_well (Sample bits) history history' words out out' is hears in
    let d = w.done in
    sampled_so bits history history' words out out' w.texts d.file d.text w.fit d.due d.history_is d.printed
