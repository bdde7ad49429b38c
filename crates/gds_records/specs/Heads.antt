-- The head of the record at a place of some bytes.
use Rattle.std.specs.Prelude.{◌≡◌, ℕ, ◌<◌, ◌≤◌, List, length, drop}
use Rattle.gds_records.specs.declared.head.Head.{Head}
use Rattle.gds_records.specs.declared.head.Head.TheVariants.{Short, Full}
use Rattle.gds_records.specs.Faults.{length_of, kind_of, form_of}

-- the four bytes there say this length and these two codes
pub record SaysHead (here : List ℕ) (size kind form : ℕ) : Type 0 where
  pub enough : 4 ≤ length here
  pub size_is : size ≡ length_of here
  pub kind_is : kind ≡ kind_of here
  pub form_is : form ≡ form_of here

-- there are fewer than four bytes, or what the four say
abbrev pub IsHeadAt : List ℕ → ℕ → Head → Type 0
IsHeadAt bytes at Short = length (drop at bytes) < 4
IsHeadAt bytes at (Full size kind form) = SaysHead (drop at bytes) size kind form
