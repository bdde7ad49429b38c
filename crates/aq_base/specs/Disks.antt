-- The calls of std that a disk has made, and how it notes each.
use Rattle.std.specs.Prelude.{ℕ, ◌≤◌, Bool, true, false, String, List, ◌∷◌, take, Result, Ok, Err, string_bytes}
use Rattle.std.specs.declared.alloc.Global.{Global}
use Rattle.std.specs.declared.io.traits.Read as reads
use Rattle.std.specs.declared.io.traits.Write as writes
use Rattle.std.specs.declared.io.traits.Seek as seeks
use Rattle.aq_base.specs.declared.store.LoadRefusal.TheVariants as refusal
use Rattle.aq_base.specs.declared.store.StoreRefusal.{StoreRefusal}
use Rattle.aq_base.specs.declared.disk.Opening.{Opening}
use Rattle.aq_base.specs.declared.disk.Opening.TheVariants as opening
use Rattle.aq_base.specs.declared.disk.Piece.{Piece}
use Rattle.aq_base.specs.declared.disk.Piece.TheVariants as piece
use Rattle.aq_base.specs.declared.disk.Disk.{Disk}
use Rattle.aq_base.specs.declared.acts.Act.TheVariants as act
use Rattle.aq_base.specs.Acts.{Did, Opened, NotOpened, AtEnd, Linked, Drafted, Made, Done, Refused, gave, wrote}

abbrev pub acts_of : {R A B : Type 0} {read : reads.Ghosts A} {write : writes.Ghosts A} {seek : seeks.Ghosts A}
    {dir : reads.Ghosts B} → Disk R A B read write seek dir → List Did
acts_of disk = disk.acts.done

-- a piece that was read or written fits its room
abbrev pub Fits : Piece → ℕ → Type 0
Fits (piece.Bytes n) room = n ≤ room
Fits _ room = Unit {0}

-- an open
abbrev pub open_did : List ℕ → Opening → Did
open_did name opening.Opened = Opened name
open_did name opening.Absent = NotOpened name refusal.Absent
open_did name opening.Failed = NotOpened name refusal.Failed

-- a read
abbrev pub read_did : Piece → List ℕ → List Did → List Did
read_did (piece.Bytes n) buffer done = gave (take n buffer) done
read_did piece.End buffer done = AtEnd ∷ done
read_did piece.Again buffer done = done
read_did piece.Failed buffer done = Refused act.Read ∷ done

-- a write
abbrev pub write_did : Piece → List ℕ → List Did → List Did
write_did (piece.Bytes n) buffer done = wrote (take n buffer) done
write_did piece.End buffer done = Refused act.Write ∷ done
write_did piece.Again buffer done = done
write_did piece.Failed buffer done = Refused act.Write ∷ done

-- the reading of a link
abbrev pub link_did : List ℕ → Result (String Global) StoreRefusal → Did
link_did path (Ok target) = Linked path (string_bytes target)
link_did path (Err why) = Refused act.Link

-- the making of a draft
abbrev pub draft_did : List ℕ → List ℕ → Result Bool StoreRefusal → Did
draft_did path target (Ok true) = Drafted path target
draft_did path target (Ok false) = Refused act.Draft
draft_did path target (Err why) = Refused act.Draft

-- the making of a file
abbrev pub make_did : List ℕ → Result (Unit {0}) StoreRefusal → Did
make_did name (Ok _) = Made name
make_did name (Err why) = Refused act.Make

-- the question whether what is open is no regular file
abbrev pub special_did : Bool → List Did → List Did
special_did true done = Done act.Special ∷ done
special_did false done = done
