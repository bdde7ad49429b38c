-- Pieces that are taken one behind the other.
use Rattle.std.proofs.Common.{ℕ, ◌≡◌, List, [], ◌∷◌, ◌++◌, append_assoc, append-nil, refl, ap, sym}
use Rattle.aq_base.specs.History.{Event, Loaded, NotLoaded, Created}
use Rattle.aq_base.specs.History.{NotCreated, Appended, NotAppended, Closed, NotClosed, Discarded, Given}
use Rattle.aq_base.specs.History.{behind, took, all_taken}

pub took-nothing : (history : List Event) → took [] history ≡ history
took-nothing history = refl

behind_twice : (history : List Event) (one other : List ℕ) → behind other (behind one history) ≡ behind
    (one ++ other) history
behind_twice [] one other = refl
behind_twice (Loaded name bytes ∷ history) one other = refl
behind_twice (NotLoaded name why ∷ history) one other = refl
behind_twice (Created name ∷ history) one other = refl
behind_twice (NotCreated name why ∷ history) one other = refl
behind_twice (Appended bytes ∷ history) one other = ap (λ bs. Appended bs ∷ history) (append_assoc bytes one other)
behind_twice (NotAppended why ∷ history) one other = refl
behind_twice (Closed ∷ history) one other = refl
behind_twice (NotClosed why ∷ history) one other = refl
behind_twice (Discarded ∷ history) one other = refl
behind_twice (Given name bytes ∷ history) one other = refl

pub took-took : (history : List Event) (one other : List ℕ) → took other (took one history) ≡ took
    (one ++ other) history
took-took history [] other = refl
took-took history (byte ∷ one) [] = ap (λ bs. took bs history) (sym (append-nil (byte ∷ one)))
took-took history (byte ∷ one) (next ∷ other) = behind_twice history (byte ∷ one) (next ∷ other)

all_behind : (history : List Event) (piece : List ℕ) → all_taken (behind piece history) ≡ all_taken history ++ piece
all_behind [] piece = refl
all_behind (Loaded name bytes ∷ history) piece = refl
all_behind (NotLoaded name why ∷ history) piece = refl
all_behind (Created name ∷ history) piece = refl
all_behind (NotCreated name why ∷ history) piece = refl
all_behind (Appended bytes ∷ history) piece = sym (append_assoc (all_taken history) bytes piece)
all_behind (NotAppended why ∷ history) piece = refl
all_behind (Closed ∷ history) piece = refl
all_behind (NotClosed why ∷ history) piece = refl
all_behind (Discarded ∷ history) piece = refl
all_behind (Given name bytes ∷ history) piece = refl

pub all_took : (history : List Event) (piece : List ℕ) → all_taken (took piece history) ≡ all_taken history ++ piece
all_took history [] = sym (append-nil (all_taken history))
all_took history (byte ∷ piece) = all_behind history (byte ∷ piece)

pub ruleset joined_pieces = (took-nothing, took-took, all_took)
