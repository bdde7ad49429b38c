-- The counts of faults that an ending shows, and the name of a failed load, follow from what was heard.
use Rattle.std.proofs.Common.{ℕ, suc, ◌≡◌, ◌<◌, List, [], ◌∷◌, take, Option, Some, None, inl, inr, refl, sym, ap}
use Rattle.std.proofs.Common.{◌∙◌, arith}
use Rattle.aq_base.specs.History.{Event, Loaded, Created}
use Rattle.aq_base.specs.FaultCounts.{read_faults, write_faults, close_faults, load_failed}
use Rattle.aq_base.specs.Output.{Output}
use Rattle.aq_base.proofs.Counting.{took_writes, took_closes}
use Rattle.aqfp_top.specs.Words.{word_at}
use Rattle.aqfp_top.specs.Loads.{Load}
use Rattle.aqfp_top.specs.Counted.{counts_of, HasFaults, FailedLoad}
use Rattle.aqfp_top.specs.Refusals.{RefusesOne}
use Rattle.aqfp_top.specs.DueTexts.{IsDue}
use Rattle.aqfp_top.specs.Runs.{loads_of, given, FailsToStore, Ends, RunsAs, HearsRun}
use Rattle.aqfp_top.specs.declared.words.Form.{Form}
use Rattle.aqfp_top.specs.declared.fault.WriteCall.{WriteCall}
use Rattle.aqfp_top.specs.declared.fault.WriteCall.TheVariants.{Create, Append, Close, Out}
use Rattle.aqfp_top.specs.declared.fault.Fault.{Fault}
use Rattle.aqfp_top.specs.declared.fault.Fault.TheVariants.{ReadFault, WriteFault}
use Rattle.aqfp_top.proofs.OutEnds.{within_fails}

-- ---- a failed load

-- one more load failed, of this name
record FailsLoad (history history' : List Event) (name : List ℕ) : Type 0 where
  more : read_faults history' ≡ suc (read_faults history)
  name_is : load_failed history' ≡ Some name

refuses_read : (loads : List Load) (words : List (List ℕ)) (history history' : List Event) (place : ℕ)
    → RefusesOne loads words history history' (ReadFault place) → FailsLoad history history' (word_at words place)
unfolding RefusesOne
refuses_read [] words history history' place refused = absurd refused
refuses_read (load ∷ loads) words history history' place (inl refused) = record {
  more = ap read_faults refused.1;
  name_is = ap load_failed refused.1 ∙ ap (λ p. Some (word_at words p)) (sym refused.0);
}
refuses_read (load ∷ loads) words history history' place (inr gives) =
    let fails = refuses_read loads words _ history' place gives.holds in
    record { more = fails.more; name_is = fails.name_is }

fails_load : (form : Form) (words : List (List ℕ)) (history history' : List Event) (out out' : Output) (place : ℕ)
    → RunsAs form history history' words out out' (Some (ReadFault place))
    → FailsLoad history history' (word_at words place)
unfolding RunsAs
fails_load form words history history' out out' place (inl refused) =
    refuses_read (loads_of form) words history history' place refused.refuses
fails_load form words history history' out out' place (inr judges) = absurd judges.answers

-- ---- a failed write or close

refuses_no_write : (loads : List Load) (words : List (List ℕ)) (history history' : List Event) (call : WriteCall)
    → RefusesOne loads words history history' (WriteFault call) → ⊥
unfolding RefusesOne
refuses_no_write [] words history history' call refused = refused
refuses_no_write (load ∷ loads) words history history' call (inl refused) = refused
refuses_no_write (load ∷ loads) words history history' call (inr gives) =
    refuses_no_write loads words _ history' call gives.holds

given_writes : (history : List Event) (words : List (List ℕ)) (loads : List Load) (texts : List (List ℕ))
    → write_faults (given history words loads texts) ≡ write_faults history
given_writes history words [] texts = refl
given_writes history words (load ∷ loads) [] = refl
given_writes history words (load ∷ loads) (text ∷ texts) =
    given_writes (Loaded (word_at words load.place) text ∷ history) words loads texts

given_closes : (history : List Event) (words : List (List ℕ)) (loads : List Load) (texts : List (List ℕ))
    → close_faults (given history words loads texts) ≡ close_faults history
given_closes history words [] texts = refl
given_closes history words (load ∷ loads) [] = refl
given_closes history words (load ∷ loads) (text ∷ texts) =
    given_closes (Loaded (word_at words load.place) text ∷ history) words loads texts

more : (a b c : ℕ) → c ≡ suc b → b ≡ a → a < c
more a b c is same = omega (arith, is, same)

-- the call that stored no file is counted
not_stored : (history now history' shown shown' : List Event) (name bytes : List ℕ) (call : WriteCall)
    → write_faults now ≡ write_faults history → close_faults now ≡ close_faults history
    → (call ≡ Out → ⊥) → FailsToStore now history' name bytes (WriteFault call)
    → HasFaults (counts_of history shown) (counts_of history' shown') (Some (WriteFault call))
not_stored history now history' shown shown' name bytes Create writes closes other fails =
    more _ _ _ (ap write_faults fails) writes
not_stored history now history' shown shown' name bytes Append writes closes other fails =
    more _ _ _ (ap write_faults fails.history_is ∙ ap suc (took_writes (take fails.count bytes) (Created name ∷ now)))
    writes
not_stored history now history' shown shown' name bytes Close writes closes other fails =
    more _ _ _ (ap close_faults fails ∙ ap suc (took_closes bytes (Created name ∷ now))) closes
not_stored history now history' shown shown' name bytes Out writes closes other fails = absurd (other refl)

ended_write : (IsWanted : Option (List ℕ) → List ℕ → Type 0) (history now history' : List Event)
    (words : List (List ℕ)) (out out' : Output) (call : WriteCall)
    → write_faults now ≡ write_faults history → close_faults now ≡ close_faults history
    → Ends IsWanted now history' words out out' (Some (WriteFault call))
    → HasFaults (counts_of history out.history) (counts_of history' out'.history) (Some (WriteFault call))
ended_write IsWanted history now history' words out out' Create writes closes ends =
    not_stored history now history' out.history out'.history (word_at words 3) ends.bytes Create writes closes (λ is. cc) ends.fails
ended_write IsWanted history now history' words out out' Append writes closes ends =
    not_stored history now history' out.history out'.history (word_at words 3) ends.bytes Append writes closes (λ is. cc) ends.fails
ended_write IsWanted history now history' words out out' Close writes closes ends =
    not_stored history now history' out.history out'.history (word_at words 3) ends.bytes Close writes closes (λ is. cc) ends.fails
ended_write IsWanted history now history' words out out' Out writes closes ends =
    within_fails ends.text out out' ends.printed

fails_write : (form : Form) (words : List (List ℕ)) (history history' : List Event) (out out' : Output)
    (call : WriteCall) → RunsAs form history history' words out out' (Some (WriteFault call))
    → HasFaults (counts_of history out.history) (counts_of history' out'.history) (Some (WriteFault call))
unfolding RunsAs
fails_write form words history history' out out' call (inl refused) =
    absurd (refuses_no_write (loads_of form) words history history' call refused.refuses)
fails_write form words history history' out out' call (inr judges) =
    ended_write (IsDue form judges.texts) history (given history words (loads_of form) judges.texts) history' words
    out out' call (given_writes history words (loads_of form) judges.texts)
    (given_closes history words (loads_of form) judges.texts) judges.ends

-- ---- what an ending shows

pub has_faults : (words : List (List ℕ)) (history history' : List Event) (out out' : Output) (answer : Option Fault)
    → HearsRun history history' words out out' answer
    → HasFaults (counts_of history out.history) (counts_of history' out'.history) answer
has_faults words history history' out out' None hears = tt
has_faults words history history' out out' (Some (ReadFault place)) hears =
    more _ _ _ (fails_load hears.form words history history' out out' place hears.runs).more refl
has_faults words history history' out out' (Some (WriteFault call)) hears =
    fails_write hears.form words history history' out out' call hears.runs
has_faults words history history' out out' (Some _) hears = tt

pub failed_load : (words : List (List ℕ)) (history history' : List Event) (out out' : Output) (answer : Option Fault)
    → HearsRun history history' words out out' answer → FailedLoad (load_failed history') words answer
failed_load words history history' out out' None hears = tt
failed_load words history history' out out' (Some (ReadFault place)) hears =
    (fails_load hears.form words history history' out out' place hears.runs).name_is
failed_load words history history' out out' (Some _) hears = tt
