-- Storing a file: it is made, its bytes are written, and it is closed where it took them all, and else given up.
use Rattle.std.specs.Prelude.{ℕ, ◌≡◌, ◌⊎◌, List, ◌∷◌, None, Result, Ok, Err}
use Rattle.aq_base.specs.History.{Event, Discarded, close_event}
use Rattle.aq_base.specs.Outside.{Outside, after_create, grown, StopsWithin}
use Rattle.aq_base.specs.declared.store.StoreRefusal.{StoreRefusal}
use Rattle.aq_base.specs.declared.store.StoreRefusal.TheVariants as store
use Rattle.aqfp_top.specs.declared.fault.WriteCall.TheVariants.{Create, Append, Close}
use Rattle.aqfp_top.specs.declared.fault.Fault.{Fault}
use Rattle.aqfp_top.specs.declared.fault.Fault.TheVariants.{WriteFault, Memory}

-- the file of this name was made, and is open
abbrev pub made : List ℕ → Outside → Outside
made name o = after_create name (Ok tt) o

-- the fault of a file that was not made for this reason
abbrev pub unmade : StoreRefusal → Fault
unmade store.Failed = WriteFault Create
unmade store.Memory = Memory

-- the file of this name was not made
pub record IsUnmade (name : List ℕ) (o o' : Outside) (result : Result (Unit {0}) Fault) : Type 0 where
  pub why : StoreRefusal
  pub refused : o' ≡ after_create name (Err why) o
  pub ends : result ≡ Err (unmade why)

-- the open file was to take these bytes: it has, or it took some first bytes of them
abbrev pub Writes : List ℕ → Outside → Outside → Result (Unit {0}) StoreRefusal → Type 0
Writes bytes o o' (Ok _) = o' ≡ grown bytes o
Writes bytes o o' (Err why) = StopsWithin o o' bytes why

-- how storing ends, by how writing and closing do
abbrev pub end_of : Result (Unit {0}) StoreRefusal → Result (Unit {0}) StoreRefusal → Result (Unit {0}) Fault
end_of (Ok _) (Ok _) = Ok tt
end_of (Ok _) (Err store.Failed) = Err (WriteFault Close)
end_of (Ok _) (Err store.Memory) = Err Memory
end_of (Err store.Failed) closed = Err (WriteFault Append)
end_of (Err store.Memory) closed = Err Memory

-- by which call the open file was left, after writing had been answered so
abbrev pub left_event : Result (Unit {0}) StoreRefusal → Result (Unit {0}) StoreRefusal → Event
left_event (Ok _) answer = close_event answer
left_event (Err why) answer = Discarded

-- and what was then seen
abbrev pub left : Result (Unit {0}) StoreRefusal → Result (Unit {0}) StoreRefusal → Outside → Outside
left written answer o = record { history = left_event written answer ∷ o.history; opened = None }

-- the open file was left, after writing had been answered so
pub record Closes (written : Result (Unit {0}) StoreRefusal) (o o' : Outside) (result : Result (Unit {0}) Fault)
    : Type 0 where
  pub answer : Result (Unit {0}) StoreRefusal
  pub closed : o' ≡ left written answer o
  pub ends : result ≡ end_of written answer

-- the file of this name was made, was to take these bytes, and was left
pub record IsStored (name bytes : List ℕ) (o o' : Outside) (result : Result (Unit {0}) Fault) : Type 0 where
  pub written : Result (Unit {0}) StoreRefusal
  pub now : Outside
  pub writes : Writes bytes (made name o) now written
  pub closes : Closes written now o' result

-- these bytes were to be stored under this name
unfoldable pub Stores : List ℕ → List ℕ → Outside → Outside → Result (Unit {0}) Fault → Type 0
Stores name bytes o o' result = IsUnmade name o o' result ⊎ IsStored name bytes o o' result
