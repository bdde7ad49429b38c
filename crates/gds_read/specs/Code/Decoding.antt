-- The records that some bytes spell.
use Rattle.std.specs.Prelude.{◌≡◌, ℕ, zero, suc, ◌+◌, ◌<◌, ◌^◌, List, [], ◌∷◌, drop, length}
use Rattle.std.specs.List.{flat_map, AllByRecursion}
use Rattle.gds_records.specs.Records.{Record, spelled}
use Rattle.gds_records.specs.Faults.{here_record, length_of}

-- a record whose length, with its head of four bytes, fits the two bytes that GDSII has for it
abbrev pub IsShortRecord : Record → Type 0
IsShortRecord r = 4 + length r.content < 2 ^ 16

-- the bytes are whole records, one after another
pub record IsSpelled (bytes : List ℕ) : Type 0 where
  pub records : List Record
  pub whole : bytes ≡ flat_map spelled records
  pub short : AllByRecursion IsShortRecord records

-- the records of bytes, of which there are at most so many
abbrev pub decode : ℕ → List ℕ → List Record
decode zero bytes = []
decode (suc n) [] = []
decode (suc n) (b ∷ bytes) = here_record (b ∷ bytes) ∷ decode n (drop (length_of (b ∷ bytes)) (b ∷ bytes))

-- all records of some bytes, in order
unfoldable pub records_in : List ℕ → List Record
records_in bytes = decode (length bytes) bytes

-- a record at the front, and the others behind it
pub record Goes (bytes rest : List ℕ) : Type 0 where
  pub behind : rest ≡ drop (length_of bytes) bytes
  pub spelled_rest : IsSpelled rest
  pub records : records_in bytes ≡ here_record bytes ∷ records_in rest
  pub less : length rest < length bytes
