-- Pieces that are read or written one behind the other, and what they stand for.
use Rattle.std.proofs.Common.{ℕ, ◌≡◌, ◌≤◌, ◌+◌, ◌-◌, List, [], ◌∷◌, ◌++◌, length, take, drop, append_assoc}
use Rattle.std.proofs.Common.{append-nil, refl, ap, sym, subst, ◌∙◌, inl, inr, Bool, true, false}
use Rattle.std.proofs.lemmas.Bool.{true≢false}
use Rattle.std.proofs.Math.Logic.{∥∥₁_map}
use Rattle.std.proofs.lemmas.List.{drop-append-le, take_all}
use Rattle.std.proofs.Math.Seq.{drop-length}
use Rattle.aq_base.specs.declared.acts.Act.TheVariants as act
use Rattle.aq_base.specs.declared.store.LoadRefusal.{LoadRefusal}
use Rattle.aq_base.specs.declared.store.LoadRefusal.TheVariants as refusal
use Rattle.aq_base.specs.declared.store.StoreRefusal.{StoreRefusal}
use Rattle.aq_base.specs.History.{Event, Loaded, NotLoaded, Created, NotCreated, Appended, NotAppended, Closed}
use Rattle.aq_base.specs.History.{NotClosed, Discarded, Given, took}
use Rattle.aq_base.specs.Acts.{Did, Opened, NotOpened, Gave, AtEnd, Linked, Drafted, Made, Took, Done, Refused}
use Rattle.aq_base.specs.Acts.{read_on, gave, write_on, wrote, drafting, call_did, Adds}
use Rattle.aq_base.specs.Honest.{IsFailedLoad, read_whole}
use Rattle.aq_base.specs.Honest.{Honest, StandsFor, BreaksOff, Creates, is_idle, Closes, FailsToClose, LeavesNone}
use Rattle.aq_base.specs.Code.Drafts.{Ends}
use Rattle.aq_base.specs.Writers.{WritesPart}
use Rattle.aq_base.proofs.Passing.{take-seam, slice-rest}

read_twice : (done : List Did) (one other : List ℕ) → read_on other (read_on one done) ≡ read_on (one ++ other) done
read_twice [] one other = refl
read_twice (Opened name ∷ done) one other = refl
read_twice (NotOpened name why ∷ done) one other = refl
read_twice (Gave bytes ∷ done) one other = ap (λ bs. Gave bs ∷ done) (append_assoc bytes one other)
read_twice (AtEnd ∷ done) one other = refl
read_twice (Linked path target ∷ done) one other = refl
read_twice (Drafted path target ∷ done) one other = refl
read_twice (Made name ∷ done) one other = refl
read_twice (Took bytes ∷ done) one other = refl
read_twice (Done call ∷ done) one other = refl
read_twice (Refused call ∷ done) one other = refl

pub gave-gave : (done : List Did) (one other : List ℕ) → gave other (gave one done) ≡ gave (one ++ other) done
gave-gave done [] other = refl
gave-gave done (byte ∷ one) [] = ap (λ bs. gave bs done) (sym (append-nil (byte ∷ one)))
gave-gave done (byte ∷ one) (next ∷ other) = read_twice done (byte ∷ one) (next ∷ other)

-- nothing was read yet
pub gave-start : (done : List Did) (old : List ℕ) → done ≡ gave (drop (length old) old) done
gave-start done old = ap (λ bs. gave bs done) (sym (drop-length old))

-- a piece was read, and put behind what was read
pub gave-more : (done done' done'' : List Did) (old items items' p : List ℕ) → length old ≤ length items
    → items' ≡ items ++ p → done' ≡ gave (drop (length old) items) done → done'' ≡ gave p done'
    → done'' ≡ gave (drop (length old) items') done
gave-more done done' done'' old items items' p long is h k =
    k ∙ ap (λ d. gave p d) h ∙ gave-gave done (drop (length old) items) p
    ∙ sym (ap (λ bs. gave (drop (length old) bs) done) is
    ∙ ap (λ bs. gave bs done) (drop-append-le (length old) items p long))

-- a reading that is broken off
pub breaks_long : (taken : ℕ) (bytes : List ℕ) (opened done : List Did) → length bytes ≡ taken
    → done ≡ gave bytes opened → BreaksOff (refusal.TooLong taken) opened done
breaks_long taken bytes opened done long is = (bytes, long, is)

pub breaks_still : (bytes : List ℕ) (opened done : List Did) → done ≡ gave bytes opened
    → BreaksOff refusal.Failed opened done
breaks_still bytes opened done is = (bytes, inl is)

pub breaks_read : (bytes : List ℕ) (opened done done' : List Did) → done ≡ gave bytes opened
    → done' ≡ Refused act.Read ∷ done → BreaksOff refusal.Failed opened done'
breaks_read bytes opened done done' is next = (bytes, inr (next ∙ ap (λ d. Refused act.Read ∷ d) is))

pub breaks_memory : (bytes piece : List ℕ) (opened done done' : List Did) → done ≡ gave bytes opened
    → done' ≡ gave piece done → BreaksOff refusal.Memory opened done'
breaks_memory bytes piece opened done done' is next =
    (bytes ++ piece, next ∙ ap (λ d. gave piece d) is ∙ gave-gave opened bytes piece)

-- a load that was refused: the file was not opened, or not read whole
pub failed_open : (name : List ℕ) (why : LoadRefusal) (d d' : List Did) → d' ≡ NotOpened name why ∷ d
    → IsFailedLoad name why d d'
failed_open name why d d' is = inl is

pub failed_read : (name : List ℕ) (why : LoadRefusal) (d opened d' : List Did) → opened ≡ Opened name ∷ d
    → BreaksOff why opened d' → IsFailedLoad name why d d'
failed_read name why d opened d' is broken = inr (subst (λ at. BreaksOff why at d') is broken)

pub loaded_whole : (name bytes : List ℕ) (d opened d' : List Did) → opened ≡ Opened name ∷ d
    → d' ≡ AtEnd ∷ gave bytes opened → d' ≡ read_whole name bytes d
loaded_whole name bytes d opened d' is whole = whole ∙ ap (λ at. AtEnd ∷ gave bytes at) is

write_twice : (done : List Did) (one other : List ℕ) → write_on other (write_on one done) ≡ write_on (one ++ other) done
write_twice [] one other = refl
write_twice (Opened name ∷ done) one other = refl
write_twice (NotOpened name why ∷ done) one other = refl
write_twice (Gave bytes ∷ done) one other = refl
write_twice (AtEnd ∷ done) one other = refl
write_twice (Linked path target ∷ done) one other = refl
write_twice (Drafted path target ∷ done) one other = refl
write_twice (Made name ∷ done) one other = refl
write_twice (Took bytes ∷ done) one other = ap (λ bs. Took bs ∷ done) (append_assoc bytes one other)
write_twice (Done call ∷ done) one other = refl
write_twice (Refused call ∷ done) one other = refl

pub wrote-wrote : (done : List Did) (one other : List ℕ) → wrote other (wrote one done) ≡ wrote (one ++ other) done
wrote-wrote done [] other = refl
wrote-wrote done (byte ∷ one) [] = ap (λ bs. wrote bs done) (sym (append-nil (byte ∷ one)))
wrote-wrote done (byte ∷ one) (next ∷ other) = write_twice done (byte ∷ one) (next ∷ other)

-- a piece was written behind what was written
pub wrote-next : (d d' d'' : List Did) (done count : ℕ) (piece : List ℕ) → done ≤ length piece
    → d' ≡ wrote (take done piece) d
    → d'' ≡ wrote (take count (take (length piece - done) (drop done piece))) d'
    → d'' ≡ wrote (take (done + count) piece) d
wrote-next d d' d'' done count piece within h k =
    k ∙ ap (λ bs. wrote (take count bs) d') (slice-rest done piece)
    ∙ ap (λ at. wrote (take count (drop done piece)) at) h
    ∙ wrote-wrote d (take done piece) (take count (drop done piece))
    ∙ sym (ap (λ bs. wrote bs d) (take-seam done count piece within))

pub wrote-all : (d d' : List Did) (done : ℕ) (piece : List ℕ) → length piece ≤ done
    → d' ≡ wrote (take done piece) d → d' ≡ wrote piece d
wrote-all d d' done piece all h = h ∙ ap (λ bs. wrote bs d) (take_all done piece all)

-- some first bytes were written, and no more, or a write was refused
pub wrote-still : (d d' : List Did) (count : ℕ) (piece : List ℕ) → count ≤ length piece
    → d' ≡ wrote (take count piece) d → WritesPart d d' piece count
wrote-still d d' count piece within is = record { within = within; calls = inl is }

pub wrote-refused : (d d' d'' : List Did) (count : ℕ) (piece : List ℕ) → count ≤ length piece
    → d' ≡ wrote (take count piece) d → d'' ≡ Refused act.Write ∷ d' → WritesPart d d'' piece count
wrote-refused d d' d'' count piece within is next =
    record { within = within; calls = inr (next ∙ ap (λ at. Refused act.Write ∷ at) is) }

-- ---- whether a draft stands

drafting-read_on : (bytes : List ℕ) (done : List Did) → drafting (read_on bytes done) ≡ drafting done
drafting-read_on bytes [] = refl
drafting-read_on bytes (Opened name ∷ done) = refl
drafting-read_on bytes (NotOpened name why ∷ done) = refl
drafting-read_on bytes (Gave before ∷ done) = refl
drafting-read_on bytes (AtEnd ∷ done) = refl
drafting-read_on bytes (Linked path target ∷ done) = refl
drafting-read_on bytes (Drafted path target ∷ done) = refl
drafting-read_on bytes (Made name ∷ done) = refl
drafting-read_on bytes (Took before ∷ done) = refl
drafting-read_on bytes (Done call ∷ done) = refl
drafting-read_on bytes (Refused call ∷ done) = refl

pub drafting-gave : (piece : List ℕ) (done : List Did) → drafting (gave piece done) ≡ drafting done
drafting-gave [] done = refl
drafting-gave (byte ∷ piece) done = drafting-read_on (byte ∷ piece) done

drafting-write_on : (bytes : List ℕ) (done : List Did) → drafting (write_on bytes done) ≡ drafting done
drafting-write_on bytes [] = refl
drafting-write_on bytes (Opened name ∷ done) = refl
drafting-write_on bytes (NotOpened name why ∷ done) = refl
drafting-write_on bytes (Gave before ∷ done) = refl
drafting-write_on bytes (AtEnd ∷ done) = refl
drafting-write_on bytes (Linked path target ∷ done) = refl
drafting-write_on bytes (Drafted path target ∷ done) = refl
drafting-write_on bytes (Made name ∷ done) = refl
drafting-write_on bytes (Took before ∷ done) = refl
drafting-write_on bytes (Done call ∷ done) = refl
drafting-write_on bytes (Refused call ∷ done) = refl

pub drafting-wrote : (piece : List ℕ) (done : List Did) → drafting (wrote piece done) ≡ drafting done
drafting-wrote [] done = refl
drafting-wrote (byte ∷ piece) done = drafting-write_on (byte ∷ piece) done

pub drafting-flush : (done : Bool) (calls : List Did) → drafting (call_did act.Flush done ∷ calls) ≡ drafting calls
drafting-flush true calls = refl
drafting-flush false calls = refl

pub drafting-mode : (done : Bool) (calls : List Did) → drafting (call_did act.Mode done ∷ calls) ≡ drafting calls
drafting-mode true calls = refl
drafting-mode false calls = refl

pub drafting-sync : (done : Bool) (calls : List Did) → drafting (call_did act.Sync done ∷ calls) ≡ drafting calls
drafting-sync true calls = refl
drafting-sync false calls = refl

pub drafting-folder : (done : Bool) (calls : List Did)
    → drafting (call_did act.SyncFolder done ∷ calls) ≡ drafting calls
drafting-folder true calls = refl
drafting-folder false calls = refl

-- ---- the history

honest_took : (piece : List ℕ) (d d' : List Did) (history : List Event) → d' ≡ wrote piece d → Honest d history
    → Honest d' (took piece history)
honest_took [] d d' history is h = subst (λ at. Honest at history) (sym is) h
honest_took (byte ∷ piece) d d' [] is h = (d, is, h)
honest_took (byte ∷ piece) d d' (Loaded name bytes ∷ history) is h = (d, is, h)
honest_took (byte ∷ piece) d d' (NotLoaded name why ∷ history) is h = (d, is, h)
honest_took (byte ∷ piece) d d' (Created name ∷ history) is h = (d, is, h)
honest_took (byte ∷ piece) d d' (NotCreated name why ∷ history) is h = (d, is, h)
honest_took (byte ∷ piece) d d' (Appended bytes ∷ history) is h = (
  h.0,
  is ∙ ap (λ at. wrote (byte ∷ piece) at) h.1 ∙ wrote-wrote h.0 bytes (byte ∷ piece),
  h.2,
)
honest_took (byte ∷ piece) d d' (NotAppended why ∷ history) is h = (d, is, h)
honest_took (byte ∷ piece) d d' (Closed ∷ history) is h = (d, is, h)
honest_took (byte ∷ piece) d d' (NotClosed why ∷ history) is h = (d, is, h)
honest_took (byte ∷ piece) d d' (Discarded ∷ history) is h = (d, is, h)
honest_took (byte ∷ piece) d d' (Given name bytes ∷ history) is h = (d, is, h)

pub honest-none : (d : List Did) → d ≡ [] → ∥ Honest d [] ∥₁
honest-none d is = ∣ is ∣₁

-- one event more, for which these calls stand
pub honest-next : (event : Event) (d d' : List Did) (history : List Event) → StandsFor event d d'
    → ∥ Honest d history ∥₁ → ∥ Honest d' (event ∷ history) ∥₁
honest-next event d d' history stands h = ∥∥₁_map h (λ k. (d, stands, k))

pub honest-took : (piece : List ℕ) (d d' : List Did) (history : List Event) → d' ≡ wrote piece d
    → ∥ Honest d history ∥₁ → ∥ Honest d' (took piece history) ∥₁
honest-took piece d d' history is h = ∥∥₁_map h (honest_took piece d d' history is)

-- some first bytes were taken, and then no more
pub honest-cut : (why : StoreRefusal) (piece : List ℕ) (count : ℕ) (d d' : List Did) (history : List Event)
    → WritesPart d d' piece count → ∥ Honest d history ∥₁
    → ∥ Honest d' (NotAppended why ∷ took (take count piece) history) ∥₁
honest-cut why piece count d d' history part h = honest-next (NotAppended why) (wrote (take count piece) d) d'
    (took (take count piece) history) part.calls
    (honest-took (take count piece) d (wrote (take count piece) d) history refl h)

pub honest-created : (name : List ℕ) (d d' : List Did) (history : List Event) → Creates name d d'
    → ∥ Honest d history ∥₁ → ∥ Honest d' (Created name ∷ history) ∥₁
honest-created name d d' history creates h = honest-next (Created name) d d' history creates h

pub honest-not-created : (name : List ℕ) (why : StoreRefusal) (d d' : List Did) (history : List Event)
    → Adds is_idle d d' → ∥ Honest d history ∥₁ → ∥ Honest d' (NotCreated name why ∷ history) ∥₁
honest-not-created name why d d' history idle h = honest-next (NotCreated name why) d d' history idle h

pub honest-unmade : (name : List ℕ) (why : StoreRefusal) (d : List Did) (history : List Event)
    → ∥ Honest d history ∥₁ → ∥ Honest d (NotCreated name why ∷ history) ∥₁
honest-unmade name why d history h = honest-not-created name why d d history
    (record { calls = []; meet = refl; added = refl }) h

closed_so : (done : Bool) (d d' : List Did) → Ends done d d' → done ≡ true → Closes d d'
closed_so true d d' ends e = ends
closed_so false d d' ends e = absurd (true≢false (sym e))

not_closed_so : (done : Bool) (d d' : List Did) → Ends done d d' → done ≡ false → FailsToClose d d'
not_closed_so true d d' ends e = absurd (true≢false e)
not_closed_so false d d' ends e = ends

pub honest-closed : (done : Bool) (d d' : List Did) (history : List Event) → Ends done d d' → done ≡ true
    → ∥ Honest d history ∥₁ → ∥ Honest d' (Closed ∷ history) ∥₁
honest-closed done d d' history ends e h = honest-next Closed d d' history (closed_so done d d' ends e) h

pub honest-not-closed : (why : StoreRefusal) (done : Bool) (d d' : List Did) (history : List Event) → Ends done d d'
    → done ≡ false → ∥ Honest d history ∥₁ → ∥ Honest d' (NotClosed why ∷ history) ∥₁
honest-not-closed why done d d' history ends e h =
    honest-next (NotClosed why) d d' history (not_closed_so done d d' ends e) h

pub honest-discarded : (d d' : List Did) (history : List Event) → LeavesNone d d' → ∥ Honest d history ∥₁
    → ∥ Honest d' (Discarded ∷ history) ∥₁
honest-discarded d d' history left h = honest-next Discarded d d' history left h

pub ruleset standing = (
  drafting-gave,
  drafting-wrote,
  drafting-flush,
  drafting-mode,
  drafting-sync,
  drafting-folder,
)

pub ruleset reading = (gave-start, gave-more, breaks_long, breaks_still, breaks_read, breaks_memory)

pub ruleset loading = (failed_open, failed_read, loaded_whole)

pub ruleset writing = (wrote-next, wrote-all, wrote-still, wrote-refused)

pub ruleset honest = (
  honest-none,
  honest-took,
  honest-cut,
  honest-created,
  honest-not-created,
  honest-unmade,
  honest-closed,
  honest-not-closed,
  honest-discarded,
)
