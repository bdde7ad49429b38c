-- From the calls that store a file to what was heard.
use Rattle.std.proofs.Common.{ℕ, ◌≡◌, ◌≤◌, List, [], ◌∷◌, ◌++◌, length, take, None, Result, Ok, Err, IfErr}
use Rattle.std.proofs.Common.{OnOk, IsSome}
use Rattle.std.proofs.Common.{refl, sym, ap, subst, inl, inr, ◌∙◌}
use Rattle.aq_base.specs.declared.store.StoreRefusal.{StoreRefusal}
use Rattle.aq_base.specs.declared.store.StoreRefusal.TheVariants as store
use Rattle.aq_base.specs.History.{Event, Created, NotCreated, NotAppended, Discarded, took}
use Rattle.aq_base.specs.Outside.{Outside, after_create, after_close, after_discard, grown, Stops}
use Rattle.aqfp_top.specs.Histories.{stored}
use Rattle.aqfp_top.specs.Runs.{TakesFirst, FailsToStore}
use Rattle.aqfp_top.specs.Code.Building.{IsStoreFault}
use Rattle.aqfp_top.specs.Code.Storing.{made, unmade, IsUnmade, Writes, Closes, Stores, end_of, left_event}
use Rattle.aqfp_top.specs.declared.fault.WriteCall.TheVariants.{Create}
use Rattle.aqfp_top.specs.declared.fault.Fault.{Fault}
use Rattle.aqfp_top.specs.declared.fault.Fault.TheVariants.{WriteFault, Memory}

-- ---- the calls

pub unmade_failed : (name : List ℕ) (o o' : Outside) → o' ≡ after_create name (Err store.Failed) o
    → IsUnmade name o o' (Err (WriteFault Create))
unmade_failed name o o' is = record { why = store.Failed; refused = is; ends = refl }

pub unmade_memory : (name : List ℕ) (o o' : Outside) → o' ≡ after_create name (Err store.Memory) o
    → IsUnmade name o o' (Err Memory)
unmade_memory name o o' is = record { why = store.Memory; refused = is; ends = refl }

pub ruleset makes = (unmade_failed, unmade_memory)

pub closed_whole : (answer : Result (Unit {0}) StoreRefusal) (o o' : Outside) (result : Result (Unit {0}) Fault)
    → o' ≡ after_close answer o → result ≡ end_of (Ok tt) answer → Closes (Ok tt) o o' result
closed_whole answer o o' result is ends = record { answer = answer; closed = is; ends = ends }

pub given_up : (why : StoreRefusal) (o o' : Outside) (result : Result (Unit {0}) Fault)
    → o' ≡ after_discard o → result ≡ end_of (Err why) (Ok tt) → Closes (Err why) o o' result
given_up why o o' result is ends = record { answer = Ok tt; closed = is; ends = ends }

pub ruleset closes = (closed_whole, given_up)

pub made_open : (name : List ℕ) (o o' : Outside) → o' ≡ made name o → IsSome o'.opened
made_open name o o' is = subst (λ (x : Outside). IsSome x.opened) (sym is) refl

stops_opened : (why : StoreRefusal) (o o' : Outside) → Stops why o o' → o'.opened ≡ o.opened
stops_opened store.Failed o o' s = ap (λ (x : Outside). x.opened) s
stops_opened store.Memory o o' (inl s) = ap (λ (x : Outside). x.opened) s
stops_opened store.Memory o o' (inr s) = ap (λ (x : Outside). x.opened) s

writes_opened : (bytes : List ℕ) (o o' : Outside) (answer : Result (Unit {0}) StoreRefusal) → Writes bytes o o' answer
    → o'.opened ≡ o.opened
writes_opened bytes o o' (Ok _) is = ap (λ (x : Outside). x.opened) is
writes_opened bytes o o' (Err why) part = stops_opened why (grown (take part.count bytes) o) o' part.stops

pub writes_open : (bytes : List ℕ) (o o' : Outside) (answer : Result (Unit {0}) StoreRefusal) → IsSome o.opened
    → Writes bytes o o' answer → IsSome o'.opened
writes_open bytes o o' answer some writes = subst IsSome (sym (writes_opened bytes o o' answer writes)) some

pub unmade_stores : (name bytes : List ℕ) (o o' : Outside) (result : Result (Unit {0}) Fault)
    → IsUnmade name o o' result → Stores name bytes o o' result
unfolding Stores
unmade_stores name bytes o o' result u = inl u

pub written_stores : (name bytes : List ℕ) (o now later o' : Outside) (written : Result (Unit {0}) StoreRefusal)
    (result : Result (Unit {0}) Fault) → now ≡ made name o → Writes bytes now later written
    → Closes written later o' result → Stores name bytes o o' result
unfolding Stores
written_stores name bytes o now later o' written result is writes closes = inr (record {
  written = written;
  now = later;
  writes = subst (λ x. Writes bytes x later written) is writes;
  closes = closes;
})

pub ruleset stores = (made_open, writes_open)

-- ---- what was heard

-- of all bytes, and then
whole_history : (name bytes : List ℕ) (o now : Outside) (history' : List Event) (event : Event)
    → now ≡ grown bytes (made name o) → history' ≡ event ∷ now.history
    → history' ≡ event ∷ took bytes (Created name ∷ o.history)
whole_history name bytes o now history' event grows is = is ∙ ap (λ (x : Outside). event ∷ x.history) grows

-- and of a part
first_history : (then_history : List Event) (name bytes : List ℕ) (o now : Outside) (history' : List Event) (count : ℕ)
    → count ≤ length bytes → now.history ≡ then_history ++ took (take count bytes) (Created name ∷ o.history)
    → history' ≡ Discarded ∷ now.history → TakesFirst then_history o.history history' name bytes
first_history then_history name bytes o now history' count within ends is = record {
  count = count;
  within = within;
  history_is = is ∙ ap (λ h. Discarded ∷ h) ends;
}

ended_history : (name bytes : List ℕ) (o now : Outside) (history' : List Event)
    (written closed : Result (Unit {0}) StoreRefusal) → Writes bytes (made name o) now written
    → history' ≡ left_event written closed ∷ now.history → OnOk (end_of written closed)
    (history' ≡ stored o.history name bytes)
ended_history name bytes o now history' (Ok _) (Ok _) grows is = whole_history name bytes o now history' _ grows is
ended_history name bytes o now history' (Ok _) (Err store.Failed) grows is = tt
ended_history name bytes o now history' (Ok _) (Err store.Memory) grows is = tt
ended_history name bytes o now history' (Err store.Failed) closed part is = tt
ended_history name bytes o now history' (Err store.Memory) closed part is = tt

memory_history : (name bytes : List ℕ) (o now : Outside) (history' : List Event) (count : ℕ)
    → count ≤ length bytes
    → Stops store.Memory (grown (take count bytes) (made name o)) now → history' ≡ Discarded ∷ now.history
    → FailsToStore o.history history' name bytes Memory
memory_history name bytes o now history' count within (inl s) is =
    inr (inl (first_history [] name bytes o now history' count within (ap (λ (x : Outside). x.history) s) is))
memory_history name bytes o now history' count within (inr s) is =
    inr (inr (inl (first_history (NotAppended store.Memory ∷ []) name bytes o now history' count within
    (ap (λ (x : Outside). x.history) s) is)))

ended_refused : (name bytes : List ℕ) (o now : Outside) (history' : List Event)
    (written closed : Result (Unit {0}) StoreRefusal) → Writes bytes (made name o) now written
    → history' ≡ left_event written closed ∷ now.history → IfErr (end_of written closed)
    (FailsToStore o.history history' name bytes)
ended_refused name bytes o now history' (Ok _) (Ok _) grows is = tt
ended_refused name bytes o now history' (Ok _) (Err store.Failed) grows is =
    whole_history name bytes o now history' _ grows is
ended_refused name bytes o now history' (Ok _) (Err store.Memory) grows is =
    inr (inr (inr (whole_history name bytes o now history' _ grows is)))
ended_refused name bytes o now history' (Err store.Failed) closed part is =
    first_history (NotAppended store.Failed ∷ []) name bytes o now history' part.count part.within
    (ap (λ (x : Outside). x.history) part.stops) is
ended_refused name bytes o now history' (Err store.Memory) closed part is =
    memory_history name bytes o now history' part.count part.within part.stops is

unmade_refused : (name bytes : List ℕ) (history history' : List Event) (why : StoreRefusal)
    → history' ≡ NotCreated name why ∷ history
    → IfErr {T = Unit {0}} (Err (unmade why)) (FailsToStore history history' name bytes)
unmade_refused name bytes history history' store.Failed is = is
unmade_refused name bytes history history' store.Memory is = inl is

pub stores_history : (name bytes : List ℕ) (o o' : Outside) (result : Result (Unit {0}) Fault)
    → Stores name bytes o o' result → OnOk result (o'.history ≡ stored o.history name bytes)
unfolding Stores
stores_history name bytes o o' result (inl u) = subst (λ r. OnOk r (o'.history ≡ stored o.history name bytes))
    (sym u.ends) tt
stores_history name bytes o o' result (inr s) =
    let c = s.closes in
    subst (λ r. OnOk r (o'.history ≡ stored o.history name bytes)) (sym c.ends)
    (ended_history name bytes o s.now o'.history s.written c.answer s.writes (ap (λ (x : Outside). x.history) c.closed))

pub stores_refused : (name bytes : List ℕ) (o o' : Outside) (result : Result (Unit {0}) Fault)
    → Stores name bytes o o' result → IfErr result (FailsToStore o.history o'.history name bytes)
unfolding Stores
stores_refused name bytes o o' result (inl u) =
    subst (λ r. IfErr r (FailsToStore o.history o'.history name bytes)) (sym u.ends)
    (unmade_refused name bytes o.history o'.history u.why (ap (λ (x : Outside). x.history) u.refused))
stores_refused name bytes o o' result (inr s) =
    let c = s.closes in
    subst (λ r. IfErr r (FailsToStore o.history o'.history name bytes)) (sym c.ends)
    (ended_refused name bytes o s.now o'.history s.written c.answer s.writes (ap (λ (x : Outside). x.history) c.closed))

-- ---- how it ended, and that nothing is open

ended_only : (written closed : Result (Unit {0}) StoreRefusal) → IfErr (end_of written closed) IsStoreFault
ended_only (Ok _) (Ok _) = tt
ended_only (Ok _) (Err store.Failed) = tt
ended_only (Ok _) (Err store.Memory) = tt
ended_only (Err store.Failed) closed = tt
ended_only (Err store.Memory) closed = tt

unmade_only : (why : StoreRefusal) → IsStoreFault (unmade why)
unmade_only store.Failed = tt
unmade_only store.Memory = tt

pub stores_only : (name bytes : List ℕ) (o o' : Outside) (result : Result (Unit {0}) Fault)
    → Stores name bytes o o' result → IfErr result IsStoreFault
unfolding Stores
stores_only name bytes o o' result (inl u) = subst (λ r. IfErr r IsStoreFault) (sym u.ends) (unmade_only u.why)
stores_only name bytes o o' result (inr s) =
    subst (λ r. IfErr r IsStoreFault) (sym s.closes.ends) (ended_only s.written s.closes.answer)

pub stores_shut : (name bytes : List ℕ) (o o' : Outside) (result : Result (Unit {0}) Fault)
    → Stores name bytes o o' result → o'.opened ≡ None
unfolding Stores
stores_shut name bytes o o' result (inl u) = ap (λ (x : Outside). x.opened) u.refused
stores_shut name bytes o o' result (inr s) = ap (λ (x : Outside). x.opened) s.closes.closed
