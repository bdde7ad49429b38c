-- What the calls of std on files and streams were and gave, the newest first.
use Rattle.std.specs.Prelude.{ℕ, ◌≡◌, ◌++◌, List, [], ◌∷◌, Bool, true, false, IsTrue}
use Rattle.std.specs.List.{list_all}
use Rattle.aq_base.specs.declared.store.LoadRefusal.{LoadRefusal}
use Rattle.aq_base.specs.declared.acts.Act.{Act}
use Rattle.aq_base.specs.declared.acts.Act.TheVariants as act
use Rattle.aq_base.specs.declared.acts.Note.{Note}
use Rattle.aq_base.specs.declared.acts.Note.TheVariants as note

-- A call of std. What reads give behind one another is one of these, and so is what writes take.
pub data Did : Type 0 where
  -- the file of this name was opened to be read
  Opened : (name : List ℕ) → Did
  NotOpened : (name : List ℕ) (why : LoadRefusal) → Did
  -- the file that was opened last gave these bytes
  Gave : (bytes : List ℕ) → Did
  -- and had no more
  AtEnd : Did
  -- the link at this path leads to this one
  Linked : (path target : List ℕ) → Did
  -- a new file was made at this path, to be renamed onto this target
  Drafted : (path target : List ℕ) → Did
  -- the file of this name was made empty, or a new one
  Made : (name : List ℕ) → Did
  -- the file that was made last, or the stream, took these bytes
  Took : (bytes : List ℕ) → Did
  -- this call ended well
  Done : (act : Act) → Did
  -- this one was refused
  Refused : (act : Act) → Did

-- bytes behind those that were read last
abbrev pub read_on : List ℕ → List Did → List Did
read_on bytes (Gave before ∷ done) = Gave (before ++ bytes) ∷ done
read_on bytes done = Gave bytes ∷ done

-- the calls, once reads gave a piece; no bytes are no call
abbrev pub gave : List ℕ → List Did → List Did
gave [] done = done
gave (byte ∷ piece) done = read_on (byte ∷ piece) done

-- bytes behind those that were written last
abbrev pub write_on : List ℕ → List Did → List Did
write_on bytes (Took before ∷ done) = Took (before ++ bytes) ∷ done
write_on bytes done = Took bytes ∷ done

-- the calls, once writes took a piece
abbrev pub wrote : List ℕ → List Did → List Did
wrote [] done = done
wrote (byte ∷ piece) done = write_on (byte ∷ piece) done

-- all bytes that writes took, the oldest first
abbrev pub all_wrote : List Did → List ℕ
all_wrote [] = []
all_wrote (Took bytes ∷ done) = all_wrote done ++ bytes
all_wrote (_ ∷ done) = all_wrote done

-- whether a draft stands that was neither put in its place nor removed
abbrev pub drafting : List Did → Bool
drafting [] = false
drafting (Drafted path target ∷ done) = true
drafting (Done act.Place ∷ done) = false
drafting (Done act.Remove ∷ done) = false
drafting (Refused act.Remove ∷ done) = false
drafting (_ ∷ done) = drafting done

-- some calls were made, each of which meets a test
pub record Adds (test : Did → Bool) (before after : List Did) : Type 0 where
  pub calls : List Did
  pub meet : IsTrue (list_all test calls)
  pub added : after ≡ calls ++ before

-- a call that ended well, or was refused
abbrev pub call_did : Act → Bool → Did
call_did call true = Done call
call_did call false = Refused call

-- the calls, once one is noted
abbrev pub noted : List Note → List ℕ → List ℕ → List Did → List Did
noted [] name bytes done = done
noted (note.Opened ∷ _) name bytes done = Opened name ∷ done
noted (note.NotOpened why ∷ _) name bytes done = NotOpened name why ∷ done
noted (note.Gave ∷ _) name bytes done = gave bytes done
noted (note.AtEnd ∷ _) name bytes done = AtEnd ∷ done
noted (note.Linked ∷ _) name bytes done = Linked name bytes ∷ done
noted (note.Drafted ∷ _) name bytes done = Drafted name bytes ∷ done
noted (note.Made ∷ _) name bytes done = Made name ∷ done
noted (note.Took ∷ _) name bytes done = wrote bytes done
noted (note.Done call ∷ _) name bytes done = Done call ∷ done
noted (note.Refused call ∷ _) name bytes done = Refused call ∷ done
