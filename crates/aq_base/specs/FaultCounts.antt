-- How often a store or a sink has failed, by its history.
use Rattle.std.specs.Prelude.{ℕ, suc, ◌≡◌, List, [], ◌∷◌, Option, Some, None, Result, Err}
use Rattle.aq_base.specs.declared.store.LoadRefusal.{LoadRefusal}
use Rattle.aq_base.specs.declared.store.LoadRefusal.TheVariants as load
use Rattle.aq_base.specs.declared.store.StoreRefusal.{StoreRefusal}
use Rattle.aq_base.specs.declared.store.StoreRefusal.TheVariants as store
use Rattle.aq_base.specs.History.{Event, NotLoaded, NotCreated, NotAppended, NotClosed}

-- how many loads failed
abbrev pub read_faults : List Event → ℕ
read_faults [] = 0
read_faults (NotLoaded name load.Failed ∷ history) = suc (read_faults history)
read_faults (_ ∷ history) = read_faults history

-- how many calls that make a file or add to it failed; of a sink, how many that put a piece
abbrev pub write_faults : List Event → ℕ
write_faults [] = 0
write_faults (NotCreated name store.Failed ∷ history) = suc (write_faults history)
write_faults (NotAppended store.Failed ∷ history) = suc (write_faults history)
write_faults (_ ∷ history) = write_faults history

-- how many calls that close a file failed
abbrev pub close_faults : List Event → ℕ
close_faults [] = 0
close_faults (NotClosed store.Failed ∷ history) = suc (close_faults history)
close_faults (_ ∷ history) = close_faults history

-- how many calls that add to a file or put a piece were refused memory
abbrev pub memory_refusals : List Event → ℕ
memory_refusals [] = 0
memory_refusals (NotAppended store.Memory ∷ history) = suc (memory_refusals history)
memory_refusals (_ ∷ history) = memory_refusals history

-- a sink was never refused memory
abbrev pub Remembers : List Event → Type 0
Remembers history = memory_refusals history ≡ 0

-- the name of the last load that failed
abbrev pub load_failed : List Event → Option (List ℕ)
load_failed [] = None
load_failed (NotLoaded name load.Failed ∷ history) = Some name
load_failed (_ ∷ history) = load_failed history

-- the counts of all kinds
pub record Faults : Type 0 where
  pub reads : ℕ
  pub writes : ℕ
  pub closes : ℕ

abbrev pub faults : List Event → Faults
faults history = record { reads = read_faults history; writes = write_faults history; closes = close_faults history }

-- one where a load failed
abbrev pub load_fault : Result (Unit {0}) LoadRefusal → ℕ
load_fault (Err load.Failed) = 1
load_fault _ = 0

-- one where another call failed
abbrev pub call_fault : Result (Unit {0}) StoreRefusal → ℕ
call_fault (Err store.Failed) = 1
call_fault _ = 0

-- one where memory was refused
abbrev pub memory_refusal : StoreRefusal → ℕ
memory_refusal store.Memory = 1
memory_refusal _ = 0
