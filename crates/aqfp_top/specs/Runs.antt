-- What any store hears of a run, and what `out` gains, by the form of the words and the answer. The files of the form
-- are loaded in turn. Then the answer says why a load was refused, and nothing was printed; or it is what the stages of
-- the texts may answer that the loads gave, and what is due of these was stored and printed as far as it says.
use Rattle.std.specs.Prelude.{ℕ, ◌≡◌, ◌⊎◌, ◌≤◌, List, [], ◌∷◌, ◌++◌, length, take, Option, Some, None, IsSomeAnd}
use Rattle.aq_base.specs.declared.store.StoreRefusal.TheVariants as store
use Rattle.aq_base.specs.History.{Event, Loaded, Created, NotCreated, NotAppended, NotClosed, Discarded, took}
use Rattle.aq_base.specs.Output.{Output}
use Rattle.aq_base.specs.Output as output
use Rattle.aqfp_top.specs.Words.{word_at, IsOfForm}
use Rattle.aqfp_top.specs.Loads.{Load, build_loads, check_loads, equal_loads, write_loads, shapes_loads}
use Rattle.aqfp_top.specs.Stages as stage
use Rattle.aqfp_top.specs.Stages.{Stage, Answers}
use Rattle.aqfp_top.specs.Due.{design_stages, circuit_stages, judging_stages, comparing_stages, showing_stages}
use Rattle.aqfp_top.specs.Due.{sample_stages}
use Rattle.aqfp_top.specs.Histories.{stored}
use Rattle.aqfp_top.specs.Printed.{PrintsFirst}
use Rattle.aqfp_top.specs.Refusals.{RefusesOne}
use Rattle.aqfp_top.specs.DueTexts.{IsDue}
use Rattle.aqfp_top.specs.declared.words.Form.{Form}
use Rattle.aqfp_top.specs.declared.words.Form.TheVariants.{Make, Verify, Trace, Equal, Write, Report, Shapes, Sample}
use Rattle.aqfp_top.specs.declared.words.Form.TheVariants.{Wrong}
use Rattle.aqfp_top.specs.declared.fault.WriteCall.TheVariants.{Create, Append, Close, Out}
use Rattle.aqfp_top.specs.declared.fault.Fault.{Fault}
use Rattle.aqfp_top.specs.declared.fault.Fault.TheVariants.{WriteFault, Memory}

-- ---- what was given

-- the files that words of this form load, in turn
abbrev pub loads_of : Form → List Load
loads_of (Make planner) = build_loads
loads_of Verify = check_loads
loads_of Trace = check_loads
loads_of Equal = equal_loads
loads_of Write = write_loads
loads_of Report = write_loads
loads_of (Shapes first second) = shapes_loads
loads_of (Sample bits) = []
loads_of Wrong = []

-- the texts are one for each load, none of more bytes than its limit
abbrev pub AreWithin : List Load → List (List ℕ) → Type 0
AreWithin [] [] = Unit {0}
AreWithin (load ∷ loads) (text ∷ texts) = (length text ≤ load.limit) × AreWithin loads texts
AreWithin loads texts = ⊥

-- the history once the loads gave these texts
abbrev pub given : List Event → List (List ℕ) → List Load → List (List ℕ) → List Event
given history words (load ∷ loads) (text ∷ texts) =
    given (Loaded (word_at words load.place) text ∷ history) words loads texts
given history words loads texts = history

-- what judges the texts
abbrev pub stages_by : Form → List (List ℕ) → List Stage
stages_by (Make planner) (net ∷ lib ∷ []) = design_stages planner net lib
stages_by Verify (gds ∷ lib ∷ text ∷ []) = judging_stages gds lib text
stages_by Trace (gds ∷ lib ∷ text ∷ []) = judging_stages gds lib text
stages_by Equal (gds ∷ lib ∷ net ∷ []) = comparing_stages gds lib net
stages_by Write (gds ∷ lib ∷ []) = circuit_stages gds lib
stages_by Report (gds ∷ lib ∷ []) = circuit_stages gds lib
stages_by (Shapes first second) (gds ∷ []) = showing_stages gds first second
stages_by (Sample bits) [] = sample_stages bits
stages_by form texts = stage.Form ∷ []

-- ---- what was made of it

-- the history once a file that is due was stored under OUT, if one is
abbrev pub after_storing : List Event → List (List ℕ) → Option (List ℕ) → List Event
after_storing history words None = history
after_storing history words (Some bytes) = stored history (word_at words 3) bytes

-- what is due was stored, where it is a file, and its text was printed so far
pub record Delivers (IsWanted : Option (List ℕ) → List ℕ → Type 0) (history history' : List Event)
    (words : List (List ℕ)) (IsPrinted : List ℕ → Type 0) : Type 0 where
  pub file : Option (List ℕ)
  pub text : List ℕ
  pub due : IsWanted file text
  pub history_is : history' ≡ after_storing history words file
  pub printed : IsPrinted text

-- a file of this name was made and took some first bytes of these; then this was heard, and it was given up
pub record TakesFirst (then_history : List Event) (history history' : List Event) (name bytes : List ℕ) : Type 0 where
  pub count : ℕ
  pub within : count ≤ length bytes
  pub history_is : history' ≡ Discarded ∷ then_history ++ took (take count bytes) (Created name ∷ history)

-- What was heard where a file of this name was to take these bytes, and was not stored, by the fault: it was not made;
-- or it took some first bytes, and was given up; or it took them all, and closing was refused. Memory may have been
-- wanted by each of these calls, and by the writer.
abbrev pub FailsToStore : List Event → List Event → List ℕ → List ℕ → Fault → Type 0
FailsToStore history history' name bytes (WriteFault Create) = history' ≡ NotCreated name store.Failed ∷ history
FailsToStore history history' name bytes (WriteFault Append) =
    TakesFirst (NotAppended store.Failed ∷ []) history history' name bytes
FailsToStore history history' name bytes (WriteFault Close) =
    history' ≡ NotClosed store.Failed ∷ took bytes (Created name ∷ history)
FailsToStore history history' name bytes Memory =
    (history' ≡ NotCreated name store.Memory ∷ history)
    ⊎ (TakesFirst [] history history' name bytes
    ⊎ (TakesFirst (NotAppended store.Memory ∷ []) history history' name bytes
    ⊎ (history' ≡ NotClosed store.Memory ∷ took bytes (Created name ∷ history))))
FailsToStore history history' name bytes _ = ⊥

-- the file that is due was not stored under OUT for this fault, and nothing was printed
pub record StoresNot (IsWanted : Option (List ℕ) → List ℕ → Type 0) (history history' : List Event)
    (words : List (List ℕ)) (out out' : Output) (fault : Fault) : Type 0 where
  pub bytes : List ℕ
  pub text : List ℕ
  pub due : IsWanted (Some bytes) text
  pub fails : FailsToStore history history' (word_at words 3) bytes fault
  pub silent : out' ≡ out

-- nothing was stored or printed
pub record DoesNothing (history history' : List Event) (out out' : Output) : Type 0 where
  pub same : history' ≡ history
  pub silent : out' ≡ out

-- How the work on the texts ends. After a success all was stored and printed. Where `out` failed, the file was stored,
-- and `out` took some first bytes of the text; where storing failed, as that says. Memory may have been wanted before
-- anything was due, or by storing, or by printing. Any other fault comes before anything is stored or printed.
abbrev pub Ends : (Option (List ℕ) → List ℕ → Type 0) → List Event → List Event → List (List ℕ) → Output → Output
    → Option Fault → Type 0
Ends IsWanted history history' words out out' None =
    Delivers IsWanted history history' words (λ text. out' ≡ output.printed text out)
Ends IsWanted history history' words out out' (Some (WriteFault Out)) =
    Delivers IsWanted history history' words (PrintsFirst store.Failed out out')
Ends IsWanted history history' words out out' (Some (WriteFault call)) =
    StoresNot IsWanted history history' words out out' (WriteFault call)
Ends IsWanted history history' words out out' (Some Memory) =
    DoesNothing history history' out out'
    ⊎ (StoresNot IsWanted history history' words out out' Memory
    ⊎ Delivers IsWanted history history' words (PrintsFirst store.Memory out out'))
Ends IsWanted history history' words out out' (Some fault) = DoesNothing history history' out out'

-- the loads gave texts, their stages may answer this, and the work on them ended so
pub record Judges (form : Form) (history history' : List Event) (words : List (List ℕ)) (out out' : Output)
    (answer : Option Fault) : Type 0 where
  pub texts : List (List ℕ)
  pub fit : AreWithin (loads_of form) texts
  pub answers : Answers (stages_by form texts) answer
  pub ends : Ends (IsDue form texts) (given history words (loads_of form) texts) history' words out out' answer

-- one of the loads was refused
pub record IsRefused (loads : List Load) (history history' : List Event) (words : List (List ℕ)) (out out' : Output)
    (answer : Option Fault) : Type 0 where
  pub refuses : IsSomeAnd answer (RefusesOne loads words history history')
  pub silent : out' ≡ out

-- the run of words of this form ended so
unfoldable pub RunsAs : Form → List Event → List Event → List (List ℕ) → Output → Output → Option Fault → Type 0
RunsAs form history history' words out out' answer =
    IsRefused (loads_of form) history history' words out out' answer
    ⊎ Judges form history history' words out out' answer

-- the words have a form, and their run ended so
pub record HearsRun (history history' : List Event) (words : List (List ℕ)) (out out' : Output)
    (answer : Option Fault) : Type 0 where
  pub form : Form
  pub is_form : IsOfForm words form
  pub runs : RunsAs form history history' words out out' answer
