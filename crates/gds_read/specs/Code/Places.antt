-- What may follow at each place of a reader, by the grammar of wide streams.
use Rattle.std.specs.Prelude.{◌≡◌, List, [], ◌∷◌, Bool, true}
use Rattle.gds_records.specs.Language.{Language, Empty, One, Then, Many}
use Rattle.gds_records.specs.declared.codes.TheConstants.{ENDLIB, ENDSTR, ENDEL, PROPATTR, PROPVALUE}
use Rattle.gds_records.specs.Profiled.{alive}
use Rattle.gds_records.specs.Grammar.{◌>>◌, tail, wide_element, structure_of_each}
use Rattle.gds_read.specs.declared.place.Level.{Level}
use Rattle.gds_read.specs.declared.place.Level.TheVariants as levels
use Rattle.gds_read.specs.declared.place.Place.{Place}
use Rattle.gds_read.specs.Code.Sequences.{in_sequence, is_clear}

-- what a level goes on with, up to its end
abbrev pub inside : Level → Language
inside levels.Library = Many (structure_of_each wide_element) >> One ENDLIB
inside levels.Structure = Many wide_element >> One ENDSTR
inside levels.Element = tail
inside levels.Property = Then (Then (One PROPVALUE) (Many (One PROPATTR >> One PROPVALUE))) (One ENDEL)
inside levels.Done = Empty

-- what comes behind a structure
abbrev pub behind_structure : List Language
behind_structure = Many (structure_of_each wide_element) ∷ One ENDLIB ∷ []

-- what comes behind an element
abbrev pub behind_element : List Language
behind_element = Many wide_element ∷ One ENDSTR ∷ behind_structure

-- what comes behind the end of a level
abbrev pub behind : Level → List Language
behind levels.Library = []
behind levels.Structure = behind_structure
behind levels.Element = behind_element
behind levels.Property = behind_element
behind levels.Done = []

-- a language, and then others in turn
abbrev pub and_then : Language → List Language → Language
and_then a [] = a
and_then a (b ∷ bs) = and_then (Then a b) bs

-- all records that may follow, up to ENDLIB, where nothing is left of a sequence
abbrev pub at_level : Level → Language
at_level level = and_then (inside level) (behind level)

-- all records that may follow at a place, up to ENDLIB
abbrev pub rest_of : Place → Language
rest_of place = and_then (in_sequence place.left (inside place.level)) (behind place.level)

-- each record type has one place in what is left at a place
abbrev pub is_clear_place : Place → Bool
is_clear_place place = is_clear (place.left.front ∷ place.left.behind.now) (inside place.level)

-- these records may follow at this place, and there are some
pub record IsAt (l : Language) (place : Place) : Type 0 where
  pub follows : l ≡ rest_of place
  pub some : alive l ≡ true
  pub clear : is_clear_place place ≡ true
