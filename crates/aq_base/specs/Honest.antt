-- What the history of the system's store says is what the calls of std were: each event stands for calls of its own,
-- one behind the other, with nothing between.
use Rattle.std.specs.Prelude.{ℕ, ◌≡◌, ◌⊎◌, ◌++◌, ◌==◌, List, [], ◌∷◌, length, Bool, true, false, IsTrue}
use Rattle.std.specs.Prelude.{MatchBool, if◌then◌else◌}
use Rattle.std.specs.List.{list_any}
use Rattle.aq_base.specs.declared.store.LoadRefusal.{LoadRefusal}
use Rattle.aq_base.specs.declared.store.LoadRefusal.TheVariants.{Absent, TooLong, Failed, Memory}
use Rattle.aq_base.specs.declared.acts.Act.{Act}
use Rattle.aq_base.specs.declared.acts.Act.TheVariants as act
use Rattle.aq_base.specs.History.{Event, Loaded, NotLoaded, Created, NotCreated, Appended, NotAppended, Closed}
use Rattle.aq_base.specs.History.{NotClosed, Discarded, Given}
use Rattle.aq_base.specs.Acts.{Did, Opened, NotOpened, AtEnd, Linked, Drafted, Made, Done, Refused, Adds}
use Rattle.aq_base.specs.Acts.{gave, wrote, drafting}

-- ---- loads

-- a whole file of this name was read: it was opened, gave these bytes, and then no more
abbrev pub read_whole : List ℕ → List ℕ → List Did → List Did
read_whole name bytes done = AtEnd ∷ gave bytes (Opened name ∷ done)

-- the file that was opened gave some bytes, and the reading was broken off for this reason
abbrev pub BreaksOff : LoadRefusal → List Did → List Did → Type 0
BreaksOff Absent opened done = ⊥
BreaksOff (TooLong taken) opened done = (bytes : List ℕ) × (length bytes ≡ taken) × (done ≡ gave bytes opened)
BreaksOff Failed opened done =
    (bytes : List ℕ) × ((done ≡ gave bytes opened) ⊎ (done ≡ Refused act.Read ∷ gave bytes opened))
BreaksOff Memory opened done = (bytes : List ℕ) × (done ≡ gave bytes opened)

-- a load was refused for this reason: the file was not opened, or not read whole
abbrev pub IsFailedLoad : List ℕ → LoadRefusal → List Did → List Did → Type 0
IsFailedLoad name why before done =
    (done ≡ NotOpened name why ∷ before) ⊎ BreaksOff why (Opened name ∷ before) done

-- ---- files that are made

-- this call changed no file: it read a link, tried a file, or was refused
abbrev pub is_idle : Did → Bool
is_idle (Linked path target) = true
is_idle (Done act.Try) = true
is_idle (Refused act.Link) = true
is_idle (Refused act.Try) = true
is_idle (Refused act.Draft) = true
is_idle (Refused act.Make) = true
is_idle _ = false

-- whether a path begins at the root
abbrev pub is_absolute : List ℕ → Bool
is_absolute [] = false
is_absolute (byte ∷ path) = byte == 47

-- whether a byte is a slash, and whether one of a path is
abbrev pub is_slash : ℕ → Bool
is_slash byte = byte == 47

abbrev pub has_slash : List ℕ → Bool
has_slash path = list_any is_slash path

-- a path up to its last slash; nothing where it has none
abbrev pub folder_of : List ℕ → List ℕ
folder_of [] = []
folder_of (byte ∷ path) = if has_slash (byte ∷ path) then byte ∷ folder_of path else []

-- the path of a name in the folder of another path
abbrev pub beside : List ℕ → List ℕ → List ℕ
beside path name = folder_of path ++ name

-- the path to which a link at a path leads
abbrev pub followed : List ℕ → List ℕ → List ℕ
followed path target = if is_absolute target then target else beside path target

-- by the links that were read among these calls, of which none changed a file, a name leads to this path
abbrev pub Leads : List ℕ → List Did → List ℕ → Type 0
Leads name [] path = path ≡ name
Leads name (Linked from target ∷ calls) path = Leads name calls from × (path ≡ followed from target)
Leads name (call ∷ calls) path = IsTrue (is_idle call) × Leads name calls path

-- the same, of the calls behind those before
pub record Led (name : List ℕ) (before after : List Did) (path : List ℕ) : Type 0 where
  pub calls : List Did
  pub leads : Leads name calls path
  pub added : after ≡ calls ++ before

-- the file of this name was itself made empty
pub record MakesItself (name : List ℕ) (before done : List Did) : Type 0 where
  pub asked : List Did
  pub idle : Adds is_idle before asked
  pub made : done ≡ Made name ∷ asked

-- a draft was made, to be renamed onto the path to which the name leads
pub record MakesDraft (name : List ℕ) (before done : List Did) : Type 0 where
  pub asked : List Did
  pub draft : List ℕ
  pub target : List ℕ
  pub led : Led name before asked target
  pub made : done ≡ Drafted draft target ∷ asked

abbrev pub Creates : List ℕ → List Did → List Did → Type 0
Creates name before done = MakesItself name before done ⊎ MakesDraft name before done

-- ---- files that are closed, or given up

-- a draft that stands is removed, or that is refused; where none stands nothing is called
abbrev pub LeavesNone : List Did → List Did → Type 0
LeavesNone before done = MatchBool (drafting before)
    ((done ≡ Done act.Remove ∷ before) ⊎ (done ≡ Refused act.Remove ∷ before)) (done ≡ before)

-- what was flushed is kept, or what is open keeps nothing
abbrev pub IsKept : List Did → List Did → Type 0
IsKept flushed done = (done ≡ Done act.Sync ∷ flushed) ⊎ (done ≡ Done act.Special ∷ flushed)

-- what was flushed has its mode, and is synced
abbrev pub IsReady : List Did → List Did → Type 0
IsReady flushed done = (done ≡ Done act.Sync ∷ flushed) ⊎ (done ≡ Done act.Sync ∷ Done act.Mode ∷ flushed)

-- a draft that is ready was put in its place, and the folder synced, if it could be opened
pub record IsPlaced (flushed done : List Did) : Type 0 where
  pub ready : List Did
  pub is_ready : IsReady flushed ready
  pub placed : (done ≡ Done act.Place ∷ ready) ⊎ (done ≡ Done act.SyncFolder ∷ Done act.Place ∷ ready)

-- what was written was flushed and is kept, in its place
abbrev pub Closes : List Did → List Did → Type 0
Closes before done =
    MatchBool (drafting before) (IsPlaced (Done act.Flush ∷ before) done) (IsKept (Done act.Flush ∷ before) done)

-- whether a call is one of those that close a file
abbrev pub closes : Act → Bool
closes act.Flush = true
closes act.Mode = true
closes act.Special = true
closes act.Sync = true
closes act.Place = true
closes act.SyncFolder = true
closes _ = false

abbrev pub is_closing : Did → Bool
is_closing (Done call) = closes call
is_closing (Refused call) = closes call
is_closing _ = false

-- closing was tried, and of a draft that still stands nothing is left
pub record FailsToClose (before done : List Did) : Type 0 where
  pub tried : List Did
  pub closing : Adds is_closing before tried
  pub left : LeavesNone tried done

-- ---- the history

-- the calls that an event stands for
abbrev pub StandsFor : Event → List Did → List Did → Type 0
StandsFor (Loaded name bytes) before done = done ≡ read_whole name bytes before
StandsFor (NotLoaded name why) before done = IsFailedLoad name why before done
StandsFor (Created name) before done = Creates name before done
StandsFor (NotCreated name why) before done = Adds is_idle before done
StandsFor (Appended bytes) before done = done ≡ wrote bytes before
StandsFor (NotAppended why) before done = (done ≡ before) ⊎ (done ≡ Refused act.Write ∷ before)
StandsFor Closed before done = Closes before done
StandsFor (NotClosed why) before done = FailsToClose before done
StandsFor Discarded before done = LeavesNone before done
StandsFor (Given name bytes) before done = ⊥

-- the calls are those for which the events stand, one behind the other
abbrev pub Honest : List Did → List Event → Type 0
Honest done [] = done ≡ []
Honest done (event ∷ history) = (before : List Did) × StandsFor event before done × Honest before history
