-- Loads in turn, of which one is refused, as a store hears them.
use Rattle.std.specs.Prelude.{ℕ, ◌≡◌, ◌⊎◌, ◌<◌, ◌≤◌, List, [], ◌∷◌, length}
use Rattle.aq_base.specs.declared.store.LoadRefusal.TheVariants as refusal
use Rattle.aq_base.specs.History.{Event, Loaded, NotLoaded}
use Rattle.aqfp_top.specs.Words.{word_at}
use Rattle.aqfp_top.specs.Loads.{Load}
use Rattle.aqfp_top.specs.declared.fault.Fault.{Fault}
use Rattle.aqfp_top.specs.declared.fault.Fault.TheVariants.{Absent, TooLong, ReadFault, Memory}

-- the fault says why the file at this place was not loaded, as it was heard; more bytes than the limit were seen of one
-- that is too long
abbrev pub HearsRefusal : ℕ → ℕ → List (List ℕ) → List Event → List Event → Fault → Type 0
HearsRefusal place limit words history history' (Absent word) =
    (word ≡ place) × (history' ≡ NotLoaded (word_at words place) refusal.Absent ∷ history)
HearsRefusal place limit words history history' (TooLong word taken) =
    (word ≡ place) × (limit < taken) × (history' ≡ NotLoaded (word_at words place) (refusal.TooLong taken) ∷ history)
HearsRefusal place limit words history history' (ReadFault word) =
    (word ≡ place) × (history' ≡ NotLoaded (word_at words place) refusal.Failed ∷ history)
HearsRefusal place limit words history history' Memory = history' ≡ NotLoaded
    (word_at words place) refusal.Memory ∷ history
HearsRefusal place limit words history history' _ = ⊥

-- a load gave bytes, no more than its limit, and this holds of what was heard then
pub record Gives (load : Load) (words : List (List ℕ)) (history : List Event) (Then : List Event → Type 0)
    : Type 0 where
  pub bytes : List ℕ
  pub fits : length bytes ≤ load.limit
  pub holds : Then (Loaded (word_at words load.place) bytes ∷ history)

-- the fault says why one of the loads was refused; those before it gave bytes, and nothing else was heard
unfoldable pub RefusesOne : List Load → List (List ℕ) → List Event → List Event → Fault → Type 0
RefusesOne [] words history history' fault = ⊥
RefusesOne (load ∷ loads) words history history' fault = HearsRefusal load.place load.limit words history history' fault
    ⊎ Gives load words history (λ now. RefusesOne loads words now history' fault)
