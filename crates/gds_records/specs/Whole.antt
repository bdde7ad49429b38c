-- The conditions on the whole stream: each reference names a structure, what is referenced references nothing, and one
-- structure, the top, is referenced by none (this project's own profile of the GDSII Stream Format).
use Rattle.std.specs.Prelude.{ℕ, suc, ◌+◌, ◌==◌, ◌&&◌, ◌||◌, not, List, [], ◌∷◌, ◌++◌, Bool, true, false, length}
use Rattle.std.specs.Prelude.{Option, Some, None}
use Rattle.gds_records.specs.declared.fault.StreamKind.{StreamKind}
use Rattle.gds_records.specs.declared.fault.StreamKind.TheVariants.{Unsupported, UnknownName, NoTop, SeveralTops}
use Rattle.gds_records.specs.declared.codes.TheConstants.{ENDLIB, BGNSTR, ENDSTR, SNAME}
use Rattle.gds_records.specs.Records.{Record, trimmed, same}
use Rattle.gds_records.specs.Drawing.{name_of}

-- a name and the place of its SNAME record
pub record Use : Type 0 where
  pub place : ℕ
  pub name : List ℕ

-- a structure: the place of its BGNSTR record, its name, and what it references
pub record Outline : Type 0 where
  pub place : ℕ
  pub name : List ℕ
  pub uses : List Use

-- the references up to ENDSTR, in records that begin at place o
abbrev pub uses_from : ℕ → List Record → List Use
uses_from o [] = []
uses_from o (r ∷ rs) = elim (r.kind == ENDSTR) [
  | true ↦ []
  | false ↦ elim (r.kind == SNAME) [
    | true ↦ record { place = o; name = trimmed r.content } ∷ uses_from (o + (4 + length r.content)) rs
    | false ↦ uses_from (o + (4 + length r.content)) rs
  ]
]

-- the structures in records that begin at place o
abbrev pub outlines : ℕ → List Record → List Outline
outlines o [] = []
outlines o (r ∷ rs) = elim (r.kind == BGNSTR) [
  | true ↦ record { place = o; name = name_of rs; uses = uses_from (o + (4 + length r.content)) rs }
      ∷ outlines (o + (4 + length r.content)) rs
  | false ↦ outlines (o + (4 + length r.content)) rs
]

-- the place of ENDLIB
abbrev pub last_place : ℕ → List Record → ℕ
last_place o [] = o
last_place o (r ∷ rs) = elim (r.kind == ENDLIB) [ true ↦ o | false ↦ last_place (o + (4 + length r.content)) rs ]

-- one of these structures has this name
abbrev pub is_defined : List ℕ → List Outline → Bool
is_defined name [] = false
is_defined name (s ∷ ss) = same name s.name || is_defined name ss

-- one of these references is to this name
abbrev pub is_used : List ℕ → List Use → Bool
is_used name [] = false
is_used name (u ∷ us) = same name u.name || is_used name us

-- the references in all of these structures, in order
abbrev pub all_uses : List Outline → List Use
all_uses [] = []
all_uses (s ∷ ss) = s.uses ++ all_uses ss

-- the place of the first reference that names no structure
abbrev pub unknown : List Use → List Outline → Option ℕ
unknown [] ss = None
unknown (u ∷ us) ss = elim (is_defined u.name ss) [ true ↦ unknown us ss | false ↦ Some u.place ]

-- the place of the first structure that is referenced and references
abbrev pub deep : List Use → List Outline → Option ℕ
deep us [] = None
deep us (s ∷ ss) = elim (is_used s.name us && not (length s.uses == 0)) [ true ↦ Some s.place | false ↦ deep us ss ]

-- the structures that none references, by number and place
abbrev pub tops : ℕ → List Use → List Outline → List (ℕ × ℕ)
tops n us [] = []
tops n us (s ∷ ss) = elim (is_used s.name us) [ true ↦ tops (suc n) us ss | false ↦ (n, s.place) ∷ tops (suc n) us ss ]

-- the number of the first of these structures, and 0 where there is none
abbrev pub top_in : List (ℕ × ℕ) → ℕ
top_in [] = 0
top_in (t ∷ ts) = t.0

-- o is the place of ENDLIB
abbrev pub top_fault : ℕ → List (ℕ × ℕ) → Option (ℕ × StreamKind)
top_fault o [] = Some (o, NoTop)
top_fault o (t ∷ []) = None
top_fault o (t ∷ s ∷ ts) = Some (s.1, SeveralTops)

-- the first fault of the whole by its references and structures, where o is the place of ENDLIB
abbrev pub outlines_fault : ℕ → List Use → List Outline → Option (ℕ × StreamKind)
outlines_fault o us ss = elim (unknown us ss) [
  | Some p ↦ Some (p, UnknownName)
  | None ↦ elim (deep us ss) [
    | Some p ↦ Some (p, Unsupported)
    | None ↦ top_fault o (tops 0 us ss)
  ]
]

-- the first fault of the whole, in the order of the conditions
abbrev pub whole_fault : List Record → Option (ℕ × StreamKind)
whole_fault rs = outlines_fault (last_place 0 rs) (all_uses (outlines 0 rs)) (outlines 0 rs)

-- the number of the first structure that none references
abbrev pub top_of : List Record → ℕ
top_of rs = top_in (tops 0 (all_uses (outlines 0 rs)) (outlines 0 rs))
