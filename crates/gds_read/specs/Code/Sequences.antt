-- Records that come in turn: the language of a sequence of parts, and what a record comes to at its front.
use Rattle.std.specs.Prelude.{ℕ, ◌==◌, ◌&&◌, List, [], ◌∷◌, Bool, true, false, Option, Some, None}
use Rattle.gds_records.specs.Language.{Language, Nothing, Empty, One, Then, Either, Many}
use Rattle.gds_records.specs.Derivative.{speaks_nothing, then, after}
use Rattle.gds_records.specs.declared.codes.TheConstants.{STRANS, MAG, ANGLE, ELFLAGS, PLEX}
use Rattle.gds_records.specs.Grammar.{◌>>◌, maybe, flags, turned}
use Rattle.gds_read.specs.declared.sequence.Part.{Part}
use Rattle.gds_read.specs.declared.sequence.Part.TheVariants.{Over, Must, May, Flags, Turn, Turned}
use Rattle.gds_read.specs.declared.sequence.Sequence.{Sequence}
use Rattle.gds_read.specs.declared.sequence.Coming.{Coming}
use Rattle.gds_read.specs.declared.sequence.Coming.TheVariants as coming

-- the records of a part
abbrev pub part : Part → Language
part Over = Empty
part (Must kind) = One kind
part (May kind) = maybe (One kind)
part Flags = flags
part Turn = turned
part Turned = maybe (One MAG) >> maybe (One ANGLE)

-- the records of parts in turn, and then others
abbrev pub in_parts : List Part → Language → Language
in_parts [] l = l
in_parts (p ∷ ps) l = part p >> in_parts ps l

-- the records of a sequence of which this is left, and then others
abbrev pub in_sequence : Sequence → Language → Language
in_sequence left l = then (part left.front) (in_parts left.behind.now l)

-- the record types that a part may begin with, and what is left of it behind each
abbrev pub choices : Part → List (ℕ × Part)
choices Over = []
choices (Must kind) = (kind, Over) ∷ []
choices (May kind) = (kind, Over) ∷ []
choices Flags = (ELFLAGS, May PLEX) ∷ (PLEX, Over) ∷ []
choices Turn = (STRANS, Turned) ∷ []
choices Turned = (MAG, May ANGLE) ∷ (ANGLE, Over) ∷ []

-- what is left behind a record of this type, where it is one of the choices
abbrev pub pick : ℕ → List (ℕ × Part) → Option Part
pick kind [] = None
pick kind (c ∷ cs) = elim (c.0 == kind) [ true ↦ Some c.1 | false ↦ pick kind cs ]

-- what a record comes to: it may come, and this is left; all parts may be missing; or another has to come before it
pub data Followed : Type 0 where
  On : (front : Part) (behind : List Part) → Followed
  Past : Followed
  Barred : Followed

-- what a record of this type comes to before these parts
abbrev pub follow : ℕ → List Part → Followed
follow kind [] = Past
follow kind (p ∷ ps) = elim (pick kind (choices p)) [
  | Some front ↦ On front ps
  | None ↦ elim (speaks_nothing (part p)) [ true ↦ follow kind ps | false ↦ Barred ]
]

-- the same as the code tells it
abbrev pub followed : Coming → Followed
followed (coming.On left) = On left.front left.behind.now
followed coming.Past = Past
followed coming.Barred = Barred

-- the language without words
abbrev pub is_nothing : Language → Bool
is_nothing Nothing = true
is_nothing Empty = false
is_nothing (One kind) = false
is_nothing (Then a b) = false
is_nothing (Either a b) = false
is_nothing (Many a) = false

-- no word of the language begins with this record type
abbrev pub bars : Language → ℕ → Bool
bars l kind = is_nothing (after kind l)

-- a test of all record types of a part
abbrev pub each_kind : (ℕ → Bool) → Part → Bool
each_kind test Over = true
each_kind test (Must kind) = test kind
each_kind test (May kind) = test kind
each_kind test Flags = test ELFLAGS && test PLEX
each_kind test Turn = test STRANS && (test MAG && test ANGLE)
each_kind test Turned = test MAG && test ANGLE

-- no record type of a part may come first behind the part too, so that each has one place
abbrev pub is_clear : List Part → Language → Bool
is_clear [] l = true
is_clear (p ∷ ps) l = each_kind (bars (in_parts ps l)) p && is_clear ps l
