-- One step of a reader of records.
use Rattle.std.specs.Prelude.{◌≡◌, ℕ, List, drop, Some, None}
use Rattle.gds_records.specs.Language.{Language}
use Rattle.gds_records.specs.Derivative.{after}
use Rattle.gds_records.specs.Profiles.{wide}
use Rattle.gds_records.specs.Profiled.{kind_of}
use Rattle.gds_records.specs.Steps.{Kept, step_fault, Told, Stopped, Ended}
use Rattle.gds_read.specs.declared.scan.Outcome.{Outcome}
use Rattle.gds_read.specs.declared.scan.Outcome.TheVariants as outcomes
use Rattle.gds_read.specs.declared.scan.Step.{Step}
use Rattle.gds_read.specs.declared.scan.Step.TheVariants.{On, Fault}
use Rattle.gds_read.specs.declared.place.Place.{Place}
use Rattle.gds_read.specs.Code.Places.{IsAt}
use Rattle.gds_read.specs.Code.Fronts.{IsWhole}

-- the record at the front is whole and without fault, and this is the place after it
pub record GoesOn (l : Language) (kept : Kept) (b : List ℕ) (to : Place) : Type 0 where
  pub sound : step_fault wide l kept b ≡ None
  pub next : IsAt (after (kind_of b) l) to
  pub whole : IsWhole b

-- the place after the record at the front, or its fault
abbrev pub IsStep : Language → Kept → List ℕ → Step → Type 0
IsStep l kept b (On to) = GoesOn l kept b to
IsStep l kept b (Fault kind) = step_fault wide l kept b ≡ Some kind

-- what is kept, as a reader has it
abbrev pub kept : ℕ → List ℕ → List (List ℕ) → Kept
kept element colrow names = record { element = element; colrow = colrow; names = names }

-- what a scan of these bytes comes to: a fault at an offset, or the end of the records and the bytes behind it
abbrev pub told_as : List ℕ → Outcome → Told
told_as bytes (outcomes.Stopped offset kind) = Stopped offset kind
told_as bytes (outcomes.Ended offset) = Ended offset (drop offset bytes)

-- where a scan stops, in bytes from the start of the stream: at its first fault, or behind ENDLIB
abbrev pub offset_of : Outcome → ℕ
offset_of (outcomes.Stopped offset kind) = offset
offset_of (outcomes.Ended offset) = offset
