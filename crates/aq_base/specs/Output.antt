-- What a sink for bytes is seen as from outside, and what a call makes of it.
use Rattle.std.specs.Prelude.{ℕ, ◌≡◌, ◌≤◌, List, ◌∷◌, length, take}
use Rattle.aq_base.specs.declared.store.StoreRefusal.{StoreRefusal}
use Rattle.aq_base.specs.History.{Event, NotAppended, took}

-- a sink as it is seen
pub record Output : Type 0 where
  -- the bytes that it took, joined, and each refusal, the newest first
  pub history : List Event

-- the sink has taken a piece
abbrev pub printed : List ℕ → Output → Output
printed piece o = record { history = took piece o.history }

-- and then it took no more
abbrev pub stopped : StoreRefusal → Output → Output
stopped why o = record { history = NotAppended why ∷ o.history }

-- the sink took some first bytes of the piece, and then no more
pub record PrintsPart (o o' : Output) (piece : List ℕ) (why : StoreRefusal) : Type 0 where
  pub count : ℕ
  pub within : count ≤ length piece
  pub taken : o' ≡ stopped why (printed (take count piece) o)
