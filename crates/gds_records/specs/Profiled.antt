-- Streams of a profile: whole records that are a sentence of its grammar and good by its table and values, the first
-- fault of bytes that are none, and how a scan finds it.
use Rattle.std.specs.Prelude.{◌≡◌, ℕ, zero, suc, ◌+◌, ◌<◌, ◌^◌, ◌%◌, ◌==◌, ◌&&◌, ◌||◌, not, nat_lt, List, [], ◌∷◌, ◌++◌}
use Rattle.std.specs.Prelude.{Bool, true, false, length, take, drop, Option, Some, None, slice_index}
use Rattle.std.specs.List.{flat_map}
use Rattle.std.specs.Int.{w16, from_be_bytes}
use Rattle.gds_records.specs.declared.fault.StreamKind.{StreamKind}
use Rattle.gds_records.specs.declared.fault.StreamKind.TheVariants.{Truncated, Length, Unsupported, Order, DataType}
use Rattle.gds_records.specs.declared.fault.StreamKind.TheVariants.{Value}
use Rattle.gds_records.specs.Language.{Language, Nothing, Empty, One, Then, Either, Many, Speaks}
use Rattle.gds_records.specs.Derivative.{after, after_all}
use Rattle.gds_records.specs.declared.codes.TheConstants.{ENDLIB}
use Rattle.gds_records.specs.Records.{Record, record_with, spelled, kinds}
use Rattle.gds_records.specs.Table.{known_in, has_form_in, has_length_in}
use Rattle.gds_records.specs.Profiles.{Profile, value_fault_of}

-- as the table and the values have it, after the records before
pub record IsGoodIn (p : Profile) (before : List Record) (r : Record) : Type 0 where
  pub short : 4 + length r.content < 2 ^ 16
  pub even : (4 + length r.content) % 2 ≡ 0
  pub is_known : known_in p.records r.kind ≡ true
  pub form : has_form_in p.records r.kind r.form ≡ true
  pub long : has_length_in p.records r.kind (4 + length r.content) ≡ true
  pub value : value_fault_of p before r ≡ None

-- each is good after what stands before it
abbrev pub AreGoodIn : Profile → List Record → List Record → Type 0
AreGoodIn p before [] = Unit {0}
AreGoodIn p before (r ∷ rs) = IsGoodIn p before r × AreGoodIn p (before ++ r ∷ []) rs

-- all bytes are zero, as those behind ENDLIB have to be
abbrev pub are_zero : List ℕ → Bool
are_zero [] = true
are_zero (b ∷ bs) = b == 0 && are_zero bs

-- the bytes are these records and then the rest, and the records are a sentence, each with its length, codes and values
pub record IsReadIn (p : Profile) (bytes : List ℕ) (records : List Record) (rest : List ℕ) : Type 0 where
  pub whole : bytes ≡ flat_map spelled records ++ rest
  pub grammar : Speaks p.language (kinds records)
  pub good : AreGoodIn p [] records

-- the head of what stands at the front of bytes
abbrev pub length_of : List ℕ → ℕ
length_of b = from_be_bytes w16 (take 2 b)

-- its record type, in the third byte
abbrev pub kind_of : List ℕ → ℕ
kind_of b = slice_index b 2

-- its data type, in the fourth byte
abbrev pub form_of : List ℕ → ℕ
form_of b = slice_index b 3

-- the record at the front of bytes, as long as its head says
abbrev pub here_record : List ℕ → Record
here_record b = record_with (kind_of b) (form_of b) (drop 4 (take (length_of b) b))

-- the first of the six faults that a record may have by itself, whatever came before it
abbrev pub first_of_six : (few odd cut known form long : Bool) → Option StreamKind
first_of_six few odd cut known form long = elim few [
  | true ↦ Some Truncated
  | false ↦ elim odd [
    | true ↦ Some Length
    | false ↦ elim cut [
      | true ↦ Some Truncated
      | false ↦ elim known [
        | false ↦ Some Unsupported
        | true ↦ elim form [ false ↦ Some DataType | true ↦ elim long [ false ↦ Some Length | true ↦ None ] ]
      ]
    ]
  ]
]

-- how many zero bytes come first
abbrev pub zeros_before : List ℕ → ℕ
zeros_before [] = 0
zeros_before (b ∷ bs) = elim (b == 0) [ true ↦ 1 + zeros_before bs | false ↦ 0 ]

-- too few bytes for a head; a length below 4 or odd; too few bytes for the length; the record type; the data type; the
-- length
abbrev pub own_fault_in : Profile → List ℕ → Option StreamKind
own_fault_in p b = first_of_six
    (nat_lt (length b) 4)
    (nat_lt (length_of b) 4 || not (length_of b % 2 == 0))
    (nat_lt (length b) (length_of b))
    (known_in p.records (kind_of b))
    (has_form_in p.records (kind_of b) (form_of b))
    (has_length_in p.records (kind_of b) (length_of b))

-- the first fault of what stands after these records: its own, its order, or its value
pub data IsFaultHereIn (p : Profile) (before : List Record) (b : List ℕ) (k : StreamKind) : Type 0 where
  own : own_fault_in p b ≡ Some k → IsFaultHereIn p before b k
  order : own_fault_in p b ≡ None → k ≡ Order
      → ((more : List ℕ) → Speaks p.language (kinds before ++ kind_of b ∷ more) → ⊥) → IsFaultHereIn p before b k
  value : own_fault_in p b ≡ None → (more : List ℕ) → Speaks p.language (kinds before ++ kind_of b ∷ more)
      → value_fault_of p before (here_record b) ≡ Some k → IsFaultHereIn p before b k

-- the records before it are free of faults and begin a sentence that goes on
pub record IsRecordFaultIn (p : Profile) (bytes : List ℕ) (offset : ℕ) (k : StreamKind) : Type 0 where
  pub before : List Record
  pub here : List ℕ
  pub whole : bytes ≡ flat_map spelled before ++ here
  pub place : offset ≡ length (flat_map spelled before)
  pub good : AreGoodIn p [] before
  pub next : ℕ
  pub more : List ℕ
  pub goes_on : Speaks p.language (kinds before ++ next ∷ more)
  pub fault : IsFaultHereIn p before here k

-- the fault of a whole sentence of good records, and what stands after it
abbrev pub end_fault_in : Profile → List Record → List ℕ → Option (ℕ × StreamKind)
end_fault_in p rs rest = elim (are_zero rest) [
  | false ↦ Some (length (flat_map spelled rs) + zeros_before rest, Value)
  | true ↦ p.whole_fault rs
]

-- the bytes are a whole sentence of good records and a rest, and the fault is in the rest or in the whole
pub record IsEndFaultIn (p : Profile) (bytes : List ℕ) (offset : ℕ) (k : StreamKind) : Type 0 where
  pub records : List Record
  pub rest : List ℕ
  pub read : IsReadIn p bytes records rest
  pub fault : end_fault_in p records rest ≡ Some (offset, k)

-- the first fault of bytes, at this offset: at a record, or behind a whole sentence
pub data IsFirstFaultIn (p : Profile) (bytes : List ℕ) (offset : ℕ) (k : StreamKind) : Type 0 where
  at_record : IsRecordFaultIn p bytes offset k → IsFirstFaultIn p bytes offset k
  at_end : IsEndFaultIn p bytes offset k → IsFirstFaultIn p bytes offset k

-- each number is a byte, 0 to 255
abbrev pub IsBytes : List ℕ → Type 0
IsBytes bytes = (i : ℕ) → slice_index bytes i < 256

-- whether a language has a word
abbrev pub alive : Language → Bool
alive Nothing = false
alive Empty = true
alive (One k) = true
alive (Then a b) = alive a && alive b
alive (Either a b) = alive a || alive b
alive (Many a) = true

-- a record's own fault; otherwise that it may not follow; otherwise what is wrong with its value
abbrev pub fault_of : (own : Option StreamKind) (follows : Bool) (wrong : Option StreamKind) → Option StreamKind
fault_of (Some k) follows wrong = Some k
fault_of None false wrong = Some Order
fault_of None true wrong = wrong

-- what a scan comes to: a fault at a record, the records to ENDLIB and the bytes behind it, or neither so far
pub data Scanned : Type 0 where
  Faulty : (offset : ℕ) (kind : StreamKind) → Scanned
  Whole : (records : List Record) (rest : List ℕ) → Scanned
  Unfinished : Scanned

-- the records of a scan that came to ENDLIB, and otherwise none
abbrev pub records_in : Scanned → List Record
records_in (Faulty o k) = []
records_in (Whole rs rest) = rs
records_in Unfinished = []

-- a record of this type may stand after these records
abbrev pub may_follow_in : Profile → List Record → ℕ → Bool
may_follow_in p before kind = alive (after kind (after_all (kinds before) p.language))

-- what is wrong with the record at the front of bytes, after these records
abbrev pub fault_here_in : Profile → List Record → List ℕ → Option StreamKind
fault_here_in p before b =
    fault_of (own_fault_in p b) (may_follow_in p before (kind_of b)) (value_fault_of p before (here_record b))

-- the records from here on, up to the first fault
abbrev pub scan_in : Profile → ℕ → List Record → List ℕ → Scanned
scan_in p zero before b = Unfinished
scan_in p (suc n) before b = elim (fault_here_in p before b) [
  | Some k ↦ Faulty (length (flat_map spelled before)) k
  | None ↦ elim (kind_of b == ENDLIB) [
    | true ↦ Whole (before ++ here_record b ∷ []) (drop (length_of b) b)
    | false ↦ scan_in p n (before ++ here_record b ∷ []) (drop (length_of b) b)
  ]
]

-- the fault that a scan found: at a record, or at ENDLIB that of the whole
abbrev pub found_in : Profile → Scanned → Option (ℕ × StreamKind)
found_in p (Faulty o k) = Some (o, k)
found_in p (Whole rs rest) = end_fault_in p rs rest
found_in p Unfinished = None

-- the offset and the kind of the first fault of bytes, if there is one
abbrev pub first_fault_in : Profile → List ℕ → Option (ℕ × StreamKind)
first_fault_in p bytes = found_in p (scan_in p (suc (length bytes)) [] bytes)
