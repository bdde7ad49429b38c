-- What a store in memory tells follows from its history, and each call keeps it so.
use Rattle.std.proofs.Common.{ℕ, ◌≡◌, ◌≤◌, List, [], ◌∷◌, length, Option, Some, None, refl, ap, sym, ◌∙◌}
use Rattle.std.proofs.Math.Logic.{∥∥₁_map}
use Rattle.aq_base.specs.declared.store.LoadRefusal.TheVariants as load
use Rattle.aq_base.specs.declared.store.StoreRefusal.{StoreRefusal}
use Rattle.aq_base.specs.Store.{Contents, with_file, with_growth}
use Rattle.aq_base.specs.History.{Event, Loaded, NotLoaded, Created, NotCreated, Appended, NotAppended, Closed}
use Rattle.aq_base.specs.History.{NotClosed, Discarded, Given, behind, took}
use Rattle.aq_base.specs.Replay.{opened_after, contents_after, with_more, AreTold, IsTold}
use Rattle.aq_base.proofs.Growing.{nothing_more, twice_more}

opened-behind : (history : List Event) (piece : List ℕ) → opened_after (behind piece history) ≡ opened_after history
opened-behind [] piece = refl
opened-behind (Loaded name bytes ∷ history) piece = refl
opened-behind (NotLoaded name why ∷ history) piece = refl
opened-behind (Created name ∷ history) piece = refl
opened-behind (NotCreated name why ∷ history) piece = refl
opened-behind (Appended bytes ∷ history) piece = refl
opened-behind (NotAppended why ∷ history) piece = refl
opened-behind (Closed ∷ history) piece = refl
opened-behind (NotClosed why ∷ history) piece = refl
opened-behind (Discarded ∷ history) piece = refl
opened-behind (Given name bytes ∷ history) piece = refl

opened-took : (history : List Event) (piece : List ℕ) → opened_after (took piece history) ≡ opened_after history
opened-took history [] = refl
opened-took history (byte ∷ piece) = opened-behind history (byte ∷ piece)

contents-behind : (history : List Event) (piece : List ℕ)
    → contents_after (behind piece history) ≡ with_more (contents_after history) (opened_after history) piece
contents-behind [] piece = refl
contents-behind (Loaded name bytes ∷ history) piece = refl
contents-behind (NotLoaded name why ∷ history) piece = refl
contents-behind (Created name ∷ history) piece = refl
contents-behind (NotCreated name why ∷ history) piece = refl
contents-behind (Appended bytes ∷ history) piece =
    sym (twice_more (contents_after history) (opened_after history) bytes piece)
contents-behind (NotAppended why ∷ history) piece = refl
contents-behind (Closed ∷ history) piece = refl
contents-behind (NotClosed why ∷ history) piece = refl
contents-behind (Discarded ∷ history) piece = refl
contents-behind (Given name bytes ∷ history) piece = refl

pub contents-took : (history : List Event) (piece : List ℕ)
    → contents_after (took piece history) ≡ with_more (contents_after history) (opened_after history) piece
contents-took history [] = nothing_more (contents_after history) (opened_after history)
contents-took history (byte ∷ piece) = contents-behind history (byte ∷ piece)

loads-behind : (history : List Event) (piece : List ℕ) → AreTold history → AreTold (behind piece history)
loads-behind [] piece told = tt
loads-behind (Loaded name bytes ∷ history) piece told = told
loads-behind (NotLoaded name why ∷ history) piece told = told
loads-behind (Created name ∷ history) piece told = told
loads-behind (NotCreated name why ∷ history) piece told = told
loads-behind (Appended bytes ∷ history) piece told = told
loads-behind (NotAppended why ∷ history) piece told = told
loads-behind (Closed ∷ history) piece told = told
loads-behind (NotClosed why ∷ history) piece told = told
loads-behind (Discarded ∷ history) piece told = told
loads-behind (Given name bytes ∷ history) piece told = told

loads-took : (history : List Event) (piece : List ℕ) → AreTold history → AreTold (took piece history)
loads-took history [] told = told
loads-took history (byte ∷ piece) told = loads-behind history (byte ∷ piece) told

-- what is known of a store, by what it keeps
abbrev Told : Contents → Option (List ℕ) → List Event → Type 0
Told files opened history = ∥ IsTold files opened history ∥₁

pub told-none : (files : Contents) → files ≡ (λ name. None) → Told files None []
told-none files is = ∣ record { files_are = is; opened_is = refl; loads = tt } ∣₁

pub told-loaded : (files : Contents) (opened : Option (List ℕ)) (history : List Event) (name bytes : List ℕ)
    → files name ≡ Some bytes → Told files opened history → Told files opened (Loaded name bytes ∷ history)
told-loaded files opened history name bytes holds told = ∥∥₁_map told (λ t. record {
  files_are = t.files_are;
  opened_is = t.opened_is;
  loads = (sym (ap (λ (f : Contents). f name) t.files_are) ∙ holds, t.loads);
})

pub told-failed : (files : Contents) (opened : Option (List ℕ)) (history : List Event) (name : List ℕ)
    → Told files opened history → Told files opened (NotLoaded name load.Failed ∷ history)
told-failed files opened history name told = ∥∥₁_map told (λ t. record {
  files_are = t.files_are;
  opened_is = t.opened_is;
  loads = t.loads;
})

pub told-memory : (files : Contents) (opened : Option (List ℕ)) (history : List Event) (name : List ℕ)
    → Told files opened history → Told files opened (NotLoaded name load.Memory ∷ history)
told-memory files opened history name told = ∥∥₁_map told (λ t. record {
  files_are = t.files_are;
  opened_is = t.opened_is;
  loads = t.loads;
})

pub told-absent : (files : Contents) (opened : Option (List ℕ)) (history : List Event) (name : List ℕ)
    → files name ≡ None → Told files opened history → Told files opened (NotLoaded name load.Absent ∷ history)
told-absent files opened history name holds told = ∥∥₁_map told (λ t. record {
  files_are = t.files_are;
  opened_is = t.opened_is;
  loads = (sym (ap (λ (f : Contents). f name) t.files_are) ∙ holds, t.loads);
})

pub told-long : (files : Contents) (opened : Option (List ℕ)) (history : List Event) (name bytes : List ℕ) (taken : ℕ)
    → files name ≡ Some bytes → taken ≤ length bytes → Told files opened history
    → Told files opened (NotLoaded name (load.TooLong taken) ∷ history)
told-long files opened history name bytes taken holds within told = ∥∥₁_map told (λ t. record {
  files_are = t.files_are;
  opened_is = t.opened_is;
  loads = ((bytes, sym (ap (λ (f : Contents). f name) t.files_are) ∙ holds, within), t.loads);
})

pub told-created : (files : Contents) (opened : Option (List ℕ)) (history : List Event) (name : List ℕ)
    → Told files opened history → Told (with_file files name []) (Some name) (Created name ∷ history)
told-created files opened history name told = ∥∥₁_map told (λ t. record {
  files_are = ap (λ (f : Contents). with_file f name []) t.files_are;
  opened_is = refl;
  loads = t.loads;
})

pub told-not-created : (files : Contents) (opened : Option (List ℕ)) (history : List Event) (name : List ℕ)
    (why : StoreRefusal) → Told files opened history → Told files None (NotCreated name why ∷ history)
told-not-created files opened history name why told = ∥∥₁_map told (λ t. record {
  files_are = t.files_are;
  opened_is = refl;
  loads = t.loads;
})

pub told-grown : (files : Contents) (opened : Option (List ℕ)) (history : List Event) (name piece : List ℕ)
    → opened ≡ Some name → Told files opened history → Told (with_growth files name piece) opened (took piece history)
told-grown files opened history name piece is told = ∥∥₁_map told (λ t. record {
  files_are = ap (λ (n : Option (List ℕ)). with_more files n piece) (sym is)
      ∙ ap (λ (f : Contents). with_more f opened piece) t.files_are
      ∙ ap (λ (n : Option (List ℕ)). with_more (contents_after history) n piece) t.opened_is
      ∙ sym (contents-took history piece);
  opened_is = t.opened_is ∙ sym (opened-took history piece);
  loads = loads-took history piece t.loads;
})

pub told-cut : (files : Contents) (opened : Option (List ℕ)) (history : List Event) (why : StoreRefusal)
    → Told files opened history → Told files opened (NotAppended why ∷ history)
told-cut files opened history why told = ∥∥₁_map told (λ t. record {
  files_are = t.files_are;
  opened_is = t.opened_is;
  loads = t.loads;
})

pub told-closed : (files : Contents) (opened : Option (List ℕ)) (history : List Event)
    → Told files opened history → Told files None (Closed ∷ history)
told-closed files opened history told = ∥∥₁_map told (λ t. record {
  files_are = t.files_are;
  opened_is = refl;
  loads = t.loads;
})

pub told-not-closed : (files : Contents) (opened : Option (List ℕ)) (history : List Event) (why : StoreRefusal)
    → Told files opened history → Told files None (NotClosed why ∷ history)
told-not-closed files opened history why told = ∥∥₁_map told (λ t. record {
  files_are = t.files_are;
  opened_is = refl;
  loads = t.loads;
})

pub told-discarded : (files : Contents) (opened : Option (List ℕ)) (history : List Event)
    → Told files opened history → Told files None (Discarded ∷ history)
told-discarded files opened history told = ∥∥₁_map told (λ t. record {
  files_are = t.files_are;
  opened_is = refl;
  loads = t.loads;
})

pub told-given : (files : Contents) (opened : Option (List ℕ)) (history : List Event) (name bytes : List ℕ)
    → Told files opened history → Told (with_file files name bytes) opened (Given name bytes ∷ history)
told-given files opened history name bytes told = ∥∥₁_map told (λ t. record {
  files_are = ap (λ (f : Contents). with_file f name bytes) t.files_are;
  opened_is = t.opened_is;
  loads = t.loads;
})

pub ruleset telling = (
  told-none,
  told-loaded,
  told-failed,
  told-memory,
  told-absent,
  told-long,
  told-created,
  told-not-created,
  told-grown,
  told-cut,
  told-closed,
  told-not-closed,
  told-discarded,
  told-given,
)
