-- The scan with no list of records: what a reader keeps.
use Rattle.std.specs.Prelude.{ℕ, zero, suc, ◌+◌, List, [], ◌∷◌, ◌++◌, Bool, true, false, ◌==◌, ◌||◌, drop, length}
use Rattle.std.specs.Prelude.{Option, Some, None}
use Rattle.std.specs.List.{flat_map}
use Rattle.gds_records.specs.declared.fault.StreamKind.{StreamKind}
use Rattle.gds_records.specs.Language.{Language}
use Rattle.gds_records.specs.Derivative.{after}
use Rattle.gds_records.specs.declared.codes.TheConstants.{ENDLIB, STRNAME}
use Rattle.gds_records.specs.Records.{Record, spelled, trimmed, same}
use Rattle.gds_records.specs.WideValues.{last_colrow}
use Rattle.gds_records.specs.Profiles.{Profile}
use Rattle.gds_records.specs.Profiled.{own_fault_in, kind_of, length_of, here_record}
use Rattle.gds_records.specs.Profiled.{alive, fault_of, Scanned, Faulty, Whole, Unfinished}

-- the name is one of these
abbrev pub is_listed : List ℕ → List (List ℕ) → Bool
is_listed name [] = false
is_listed name (n ∷ ns) = same name n || is_listed name ns

-- with the name that this record gives, if it gives one
abbrev pub names_with : List (List ℕ) → Record → List (List ℕ)
names_with names r = elim (r.kind == STRNAME) [ true ↦ names ++ trimmed r.content ∷ [] | false ↦ names ]

-- what is kept of the records before: which one opened the element, the content of the last COLROW, and the names of
-- the structures
pub record Kept : Type 0 where
  pub element : ℕ
  pub colrow : List ℕ
  pub names : List (List ℕ)

-- of no records
abbrev pub nothing_kept : Kept
nothing_kept = record { element = 0; colrow = []; names = [] }

-- of one record more
abbrev pub kept_with : Profile → Kept → Record → Kept
kept_with p k r = record {
  element = p.opener k.element (r ∷ []);
  colrow = last_colrow k.colrow (r ∷ []);
  names = names_with k.names r;
}

-- what is wrong with the value of the record at the front
abbrev pub value_here : Profile → Kept → List ℕ → Option StreamKind
value_here p k b =
    p.value_at k.element k.colrow (is_listed (trimmed (here_record b).content) k.names) (here_record b)

-- what is wrong with the record at the front, where this language may follow
abbrev pub step_fault : Profile → Language → Kept → List ℕ → Option StreamKind
step_fault p l k b = fault_of (own_fault_in p b) (alive (after (kind_of b) l)) (value_here p k b)

-- what reading comes to: stopped by a fault, ended after ENDLIB with a rest, or neither so far
pub data Told : Type 0 where
  Stopped : (offset : ℕ) (kind : StreamKind) → Told
  Ended : (offset : ℕ) (rest : List ℕ) → Told
  Unended : Told

-- the language of what may follow, what is kept, the offset, and the bytes
abbrev pub steps : Profile → ℕ → Language → Kept → ℕ → List ℕ → Told
steps p zero l k o b = Unended
steps p (suc n) l k o b = elim (step_fault p l k b) [
  | Some fault ↦ Stopped o fault
  | None ↦ elim (kind_of b == ENDLIB) [
    | true ↦ Ended (o + length_of b) (drop (length_of b) b)
    | false ↦ steps p n (after (kind_of b) l) (kept_with p k (here_record b)) (o + length_of b) (drop (length_of b) b)
  ]
]

-- what reading all records of some bytes comes to
unfoldable pub all_steps : Profile → List ℕ → Told
all_steps p bytes = steps p (suc (length bytes)) p.language nothing_kept 0 bytes

-- what a scan tells without its records
abbrev pub told : Scanned → Told
told (Faulty o k) = Stopped o k
told (Whole rs rest) = Ended (length (flat_map spelled rs)) rest
told Unfinished = Unended
