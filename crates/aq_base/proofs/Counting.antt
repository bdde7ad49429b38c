-- How a call changes the counts of faults.
use Rattle.std.proofs.Common.{ℕ, suc, ◌≡◌, ◌+◌, List, [], ◌∷◌, ◌++◌, take, refl, ap, sym, ◌∙◌, arith}
use Rattle.std.specs.Prelude.{Result, Ok, Err}
use Rattle.aq_base.specs.History.{Event, Loaded, NotLoaded, Created}
use Rattle.aq_base.specs.History.{NotCreated, Appended, NotAppended, Closed, NotClosed, Discarded, Given}
use Rattle.aq_base.specs.History.{behind, took}
use Rattle.aq_base.specs.Outside.{Outside, TakesPart, after_load, after_create, after_close, after_discard, grown}
use Rattle.aq_base.specs.Output.{Output, PrintsPart, printed}
use Rattle.aq_base.specs.FaultCounts.{read_faults, write_faults, close_faults, memory_refusals, load_failed, Faults}
use Rattle.aq_base.specs.FaultCounts.{faults, load_fault, call_fault, memory_refusal}
use Rattle.aq_base.specs.declared.store.LoadRefusal.{LoadRefusal}
use Rattle.aq_base.specs.declared.store.LoadRefusal.TheVariants as load
use Rattle.aq_base.specs.declared.store.StoreRefusal.{StoreRefusal}
use Rattle.aq_base.specs.declared.store.StoreRefusal.TheVariants as store

abbrev Made : ℕ → ℕ → ℕ → Faults
Made reads writes closes = record { reads = reads; writes = writes; closes = closes }

none_more : (n : ℕ) → n ≡ n + 0
none_more n = omega arith

one_more : (n : ℕ) → suc n ≡ n + 1
one_more n = omega arith

-- a count that bytes leave alone
module _ {X : Type 0} (count : List Event → X) (same : (bytes : List ℕ) (history : List Event)
    → count (Appended bytes ∷ history) ≡ count history) where
  behind_counts : (piece : List ℕ) (history : List Event) → count (behind piece history) ≡ count history
  behind_counts piece [] = same piece []
  behind_counts piece (Loaded name bytes ∷ history) = same piece (Loaded name bytes ∷ history)
  behind_counts piece (NotLoaded name why ∷ history) = same piece (NotLoaded name why ∷ history)
  behind_counts piece (Created name ∷ history) = same piece (Created name ∷ history)
  behind_counts piece (NotCreated name why ∷ history) = same piece (NotCreated name why ∷ history)
  behind_counts piece (Appended bytes ∷ history) = same (bytes ++ piece) history ∙ sym (same bytes history)
  behind_counts piece (NotAppended why ∷ history) = same piece (NotAppended why ∷ history)
  behind_counts piece (Closed ∷ history) = same piece (Closed ∷ history)
  behind_counts piece (NotClosed why ∷ history) = same piece (NotClosed why ∷ history)
  behind_counts piece (Discarded ∷ history) = same piece (Discarded ∷ history)
  behind_counts piece (Given name bytes ∷ history) = same piece (Given name bytes ∷ history)

  took_counts : (piece : List ℕ) (history : List Event) → count (took piece history) ≡ count history
  took_counts [] history = refl
  took_counts (byte ∷ piece) history = behind_counts (byte ∷ piece) history

pub took_faults : (piece : List ℕ) (history : List Event) → faults (took piece history) ≡ faults history
took_faults piece history = took_counts (λ h. faults h) (λ bytes h. refl) piece history

pub took_reads : (piece : List ℕ) (history : List Event) → read_faults (took piece history) ≡ read_faults history
took_reads piece history = took_counts read_faults (λ bytes h. refl) piece history

pub took_writes : (piece : List ℕ) (history : List Event) → write_faults (took piece history) ≡ write_faults history
took_writes piece history = took_counts write_faults (λ bytes h. refl) piece history

pub took_closes : (piece : List ℕ) (history : List Event) → close_faults (took piece history) ≡ close_faults history
took_closes piece history = took_counts close_faults (λ bytes h. refl) piece history

pub took_memory : (piece : List ℕ) (history : List Event) → memory_refusals
    (took piece history) ≡ memory_refusals history
took_memory piece history = took_counts memory_refusals (λ bytes h. refl) piece history

pub took_failed : (piece : List ℕ) (history : List Event) → load_failed (took piece history) ≡ load_failed history
took_failed piece history = took_counts load_failed (λ bytes h. refl) piece history

refused_load : (name : List ℕ) (why : LoadRefusal) (history : List Event)
    → faults (NotLoaded name why ∷ history) ≡ Made (read_faults history + load_fault (Err why))
    (write_faults history) (close_faults history)
refused_load name load.Absent history = λ i. Made (none_more (read_faults history) i)
    (write_faults history) (close_faults history)
refused_load name (load.TooLong taken) history = λ i. Made (none_more (read_faults history) i)
    (write_faults history) (close_faults history)
refused_load name load.Failed history = λ i. Made (one_more (read_faults history) i)
    (write_faults history) (close_faults history)
refused_load name load.Memory history = λ i. Made (none_more (read_faults history) i)
    (write_faults history) (close_faults history)

refused_create : (name : List ℕ) (why : StoreRefusal) (history : List Event)
    → faults (NotCreated name why ∷ history) ≡ Made (read_faults history)
    (write_faults history + call_fault (Err why)) (close_faults history)
refused_create name store.Failed history =
    λ i. Made (read_faults history) (one_more (write_faults history) i) (close_faults history)
refused_create name store.Memory history =
    λ i. Made (read_faults history) (none_more (write_faults history) i) (close_faults history)

refused_piece : (why : StoreRefusal) (history : List Event)
    → faults (NotAppended why ∷ history) ≡ Made (read_faults history)
    (write_faults history + call_fault (Err why)) (close_faults history)
refused_piece store.Failed history = λ i. Made (read_faults history) (one_more (write_faults history) i)
    (close_faults history)
refused_piece store.Memory history = λ i. Made (read_faults history) (none_more (write_faults history) i)
    (close_faults history)

refused_close : (why : StoreRefusal) (history : List Event)
    → faults (NotClosed why ∷ history) ≡ Made (read_faults history) (write_faults history)
    (close_faults history + call_fault (Err why))
refused_close store.Failed history = λ i. Made (read_faults history) (write_faults history) (one_more
    (close_faults history) i)
refused_close store.Memory history = λ i. Made (read_faults history) (write_faults history) (none_more
    (close_faults history) i)

pub loads : (o : Outside) (name bytes : List ℕ) (answer : Result (Unit {0}) LoadRefusal)
    → faults (after_load name bytes answer o).history ≡ record
    (faults o.history) { reads = read_faults o.history + load_fault answer }
loads o name bytes (Ok done) = λ i. Made (none_more (read_faults o.history) i)
    (write_faults o.history) (close_faults o.history)
loads o name bytes (Err why) = refused_load name why o.history

pub makes : (o : Outside) (name : List ℕ) (answer : Result (Unit {0}) StoreRefusal)
    → faults (after_create name answer o).history ≡ record
    (faults o.history) { writes = write_faults o.history + call_fault answer }
makes o name (Ok done) = λ i. Made (read_faults o.history) (none_more (write_faults o.history) i)
    (close_faults o.history)
makes o name (Err why) = refused_create name why o.history

pub takes : (o : Outside) (piece : List ℕ) → faults (grown piece o).history ≡ faults o.history
takes o piece = took_faults piece o.history

pub takes_part : (o o' : Outside) (piece : List ℕ) (why : StoreRefusal) → TakesPart o o' piece why
    → faults o'.history ≡ record (faults o.history) { writes = write_faults o.history + call_fault (Err why) }
takes_part o o' piece why p =
    let first = take p.count piece in
    ap (λ (x : Outside). faults x.history) p.taken ∙ refused_piece why (took first o.history)
    ∙ (λ i. Made (took_reads first o.history i) (took_writes first o.history i + call_fault (Err why))
    (took_closes first o.history i))

pub closes : (o : Outside) (answer : Result (Unit {0}) StoreRefusal)
    → faults (after_close answer o).history ≡ record
    (faults o.history) { closes = close_faults o.history + call_fault answer }
closes o (Ok done) = λ i. Made (read_faults o.history) (write_faults o.history) (none_more (close_faults o.history) i)
closes o (Err why) = refused_close why o.history

pub discards : (o : Outside) → faults (after_discard o).history ≡ faults o.history
discards o = refl

pub ruleset counting = (loads, makes, takes, takes_part, closes, discards)

-- ---- a sink's

stopped_writes : (why : StoreRefusal) (history : List Event)
    → write_faults (NotAppended why ∷ history) ≡ write_faults history + call_fault (Err why)
stopped_writes store.Failed history = one_more (write_faults history)
stopped_writes store.Memory history = none_more (write_faults history)

stopped_memory : (why : StoreRefusal) (history : List Event)
    → memory_refusals (NotAppended why ∷ history) ≡ memory_refusals history + memory_refusal why
stopped_memory store.Failed history = none_more (memory_refusals history)
stopped_memory store.Memory history = one_more (memory_refusals history)

pub puts : (o : Output) (piece : List ℕ) → write_faults (printed piece o).history ≡ write_faults o.history
puts o piece = took_writes piece o.history

pub puts_part : (o o' : Output) (piece : List ℕ) (why : StoreRefusal) → PrintsPart o o' piece why
    → write_faults o'.history ≡ write_faults o.history + call_fault (Err why)
puts_part o o' piece why p =
    ap (λ (x : Output). write_faults x.history) p.taken ∙ stopped_writes why (took (take p.count piece) o.history)
    ∙ ap (λ (n : ℕ). n + call_fault (Err why)) (took_writes (take p.count piece) o.history)

pub remembers : (o : Output) (piece : List ℕ) → memory_refusals (printed piece o).history ≡ memory_refusals o.history
remembers o piece = took_memory piece o.history

pub remembers_part : (o o' : Output) (piece : List ℕ) (why : StoreRefusal) → PrintsPart o o' piece why
    → memory_refusals o'.history ≡ memory_refusals o.history + memory_refusal why
remembers_part o o' piece why p =
    ap (λ (x : Output). memory_refusals x.history) p.taken ∙ stopped_memory why (took (take p.count piece) o.history)
    ∙ ap (λ (n : ℕ). n + memory_refusal why) (took_memory (take p.count piece) o.history)

pub ruleset refusals = (puts, puts_part, remembers, remembers_part)
