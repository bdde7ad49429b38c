-- What a store of files is seen as from outside, and what each call makes of it.
use Rattle.std.specs.Prelude.{ℕ, ◌≡◌, ◌≤◌, ◌⊎◌, List, ◌∷◌, length, take, Option, Some, None, Result, Ok, Err}
use Rattle.aq_base.specs.declared.store.LoadRefusal.{LoadRefusal}
use Rattle.aq_base.specs.declared.store.StoreRefusal.{StoreRefusal}
use Rattle.aq_base.specs.declared.store.StoreRefusal.TheVariants as store
use Rattle.aq_base.specs.History.{Event, Created, NotCreated, NotAppended, Discarded, load_event, close_event, took}

-- a store as it is seen
pub record Outside : Type 0 where
  -- each call so far with its answer, and what it was given or gave, the newest first
  pub history : List Event
  -- the name that is open for appending, if any
  pub opened : Option (List ℕ)

-- a load of the name gave these bytes, or was refused
abbrev pub after_load : List ℕ → List ℕ → Result (Unit {0}) LoadRefusal → Outside → Outside
after_load name bytes result o =
    record { history = load_event name bytes result ∷ o.history; opened = o.opened }

-- the name's file was made empty and is open, or nothing is open
abbrev pub after_create : List ℕ → Result (Unit {0}) StoreRefusal → Outside → Outside
after_create name (Ok _) o = record { history = Created name ∷ o.history; opened = Some name }
after_create name (Err why) o = record { history = NotCreated name why ∷ o.history; opened = None }

-- the open file was closed, or that failed; nothing is open
abbrev pub after_close : Result (Unit {0}) StoreRefusal → Outside → Outside
after_close result o = record { history = close_event result ∷ o.history; opened = None }

-- the open file was given up, and nothing is open
abbrev pub after_discard : Outside → Outside
after_discard o = record { history = Discarded ∷ o.history; opened = None }

-- the open file has taken a piece
abbrev pub grown : List ℕ → Outside → Outside
grown piece o = record { history = took piece o.history; opened = o.opened }

-- and then it took no more
abbrev pub cut_off : StoreRefusal → Outside → Outside
cut_off why o = record { history = NotAppended why ∷ o.history; opened = o.opened }

-- the open file took some first bytes of the piece, and then no more
pub record TakesPart (o o' : Outside) (piece : List ℕ) (why : StoreRefusal) : Type 0 where
  pub count : ℕ
  pub within : count ≤ length piece
  pub taken : o' ≡ cut_off why (grown (take count piece) o)

-- writing ended there for this reason: the store took no more; or memory was refused before the store was asked
abbrev pub Stops : StoreRefusal → Outside → Outside → Type 0
Stops store.Failed o o' = o' ≡ cut_off store.Failed o
Stops store.Memory o o' = (o' ≡ o) ⊎ (o' ≡ cut_off store.Memory o)

-- some first bytes of these were taken, and writing ended there
pub record StopsWithin (o o' : Outside) (bytes : List ℕ) (why : StoreRefusal) : Type 0 where
  pub count : ℕ
  pub within : count ≤ length bytes
  pub stops : Stops why (grown (take count bytes) o) o'
