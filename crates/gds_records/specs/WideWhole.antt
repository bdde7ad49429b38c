-- The conditions on the whole of a wide stream: each reference names a structure, no chain of references is longer than
-- 64, so that no structure leads back to itself, and one structure, the top, is referenced by none.
use Rattle.std.specs.Prelude.{ℕ, zero, suc, ◌||◌, List, [], ◌∷◌, Bool, true, false, Option, Some, None}
use Rattle.gds_records.specs.declared.fault.StreamKind.{StreamKind}
use Rattle.gds_records.specs.declared.fault.StreamKind.TheVariants.{Unsupported, UnknownName}
use Rattle.gds_records.specs.Records.{Record, same}
use Rattle.gds_records.specs.Whole.{Use, Outline, outlines, last_place, all_uses, unknown, tops, top_fault}

-- what the structure of this name references
abbrev pub uses_by : List ℕ → List Outline → List Use
uses_by name [] = []
uses_by name (s ∷ ss) = elim (same name s.name) [ true ↦ s.uses | false ↦ uses_by name ss ]

-- some reference is to a name that passes the test
abbrev pub some_use : (List ℕ → Bool) → List Use → Bool
some_use test [] = false
some_use test (u ∷ us) = test u.name || some_use test us

-- a chain of so many references goes down from the structure of this name
abbrev pub goes_down : ℕ → List Outline → List ℕ → Bool
goes_down zero ss name = true
goes_down (suc n) ss name = some_use (goes_down n ss) (uses_by name ss)

-- the place of the first of these structures from which a chain of more than 64 references goes down, as from one in a
-- loop of references or above it
abbrev pub first_long : List Outline → List Outline → Option ℕ
first_long all [] = None
first_long all (s ∷ ss) = elim (goes_down 65 all s.name) [ true ↦ Some s.place | false ↦ first_long all ss ]

-- a fault of this kind at this place, where there is one, and otherwise the other fault
abbrev pub first_of : Option ℕ → StreamKind → Option (ℕ × StreamKind) → Option (ℕ × StreamKind)
first_of (Some place) kind others = Some (place, kind)
first_of None kind others = others

-- o is the place of ENDLIB
abbrev pub wide_outlines_fault : ℕ → List Outline → Option (ℕ × StreamKind)
wide_outlines_fault o ss =
    first_of (unknown (all_uses ss) ss) UnknownName
    (first_of (first_long ss ss) Unsupported
    (top_fault o (tops 0 (all_uses ss) ss)))

-- the first fault of the whole of a wide stream, in the order of the conditions
abbrev pub wide_whole_fault : List Record → Option (ℕ × StreamKind)
wide_whole_fault rs = wide_outlines_fault (last_place 0 rs) (outlines 0 rs)
