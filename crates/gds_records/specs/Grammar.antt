-- The grammar of streams, over record types (GDSII Stream Format manual, the syntax of a stream; here for libraries of
-- boundaries, references and texts).
use Rattle.std.specs.Prelude.{List, [], ◌∷◌}
use Rattle.gds_records.specs.Language.{Language, Empty, One, Then, Either, Many}
use Rattle.gds_records.specs.declared.codes.TheConstants.{HEADER, BGNLIB, LIBNAME, UNITS, ENDLIB, BGNSTR, STRNAME}
use Rattle.gds_records.specs.declared.codes.TheConstants.{ENDSTR, BOUNDARY, SREF, TEXT, LAYER, DATATYPE, WIDTH, XY}
use Rattle.gds_records.specs.declared.codes.TheConstants.{ENDEL, SNAME, TEXTTYPE, PRESENTATION, STRING, STRANS, MAG}
use Rattle.gds_records.specs.declared.codes.TheConstants.{ANGLE, REFLIBS, FONTS, PATHTYPE, GENERATIONS, ATTRTABLE}
use Rattle.gds_records.specs.declared.codes.TheConstants.{ELFLAGS, PROPATTR, PROPVALUE, PLEX, PATH, AREF, COLROW}

infixr 5 ◌>>◌
-- one language after another
abbrev pub ◌>>◌ : Language → Language → Language
a >> b = Then a b

-- a word of the language, or nothing
abbrev pub maybe : Language → Language
maybe a = Either a Empty

-- an element's end: properties, and ENDEL
abbrev pub tail : Language
tail = Many (One PROPATTR >> One PROPVALUE) >> One ENDEL

-- what may stand behind an element's first record
abbrev pub flags : Language
flags = maybe (One ELFLAGS) >> maybe (One PLEX)

-- a boundary, on a layer and datatype
abbrev pub boundary : Language
boundary = One BOUNDARY >> flags >> One LAYER >> One DATATYPE >> One XY >> tail

-- a reference to a structure by its name, at a point
abbrev pub reference : Language
reference = One SREF >> flags >> One SNAME >> maybe (One STRANS) >> One XY >> tail

-- how a reference or a text is mirrored, magnified and turned, if it is
abbrev pub turned : Language
turned = maybe (One STRANS >> maybe (One MAG) >> maybe (One ANGLE))

-- a text on a layer, at a point
abbrev pub text : Language
text = One TEXT >> flags >> One LAYER >> One TEXTTYPE >> maybe (One PRESENTATION) >> maybe (One PATHTYPE)
    >> maybe (One WIDTH) >> turned >> One XY >> One STRING >> tail

-- an element of a strict stream
abbrev pub element : Language
element = Either boundary (Either reference text)

-- a structure of such elements
abbrev pub structure_of_each : Language → Language
structure_of_each each = One BGNSTR >> One STRNAME >> Many each >> One ENDSTR

-- languages in turn, and then another
abbrev pub in_turn : List Language → Language → Language
in_turn [] last = last
in_turn (a ∷ others) last = a >> in_turn others last

-- what a library begins with
abbrev pub library_front : List Language
library_front = One HEADER ∷ One BGNLIB ∷ One LIBNAME ∷ maybe (One REFLIBS) ∷ maybe (One FONTS) ∷ maybe (One ATTRTABLE)
    ∷ maybe (One GENERATIONS) ∷ One UNITS ∷ []

-- a stream of such elements
abbrev pub stream_of_each : Language → Language
stream_of_each each = in_turn library_front (Many (structure_of_each each) >> One ENDLIB)

-- a structure of a strict stream
abbrev pub structure : Language
structure = structure_of_each element

-- a strict stream, from HEADER to ENDLIB
abbrev pub stream : Language
stream = stream_of_each element

-- ---- wide streams, with paths, and with references that are turned and repeated

-- a path, on a layer and datatype, with a width
abbrev pub path : Language
path = One PATH >> flags >> One LAYER >> One DATATYPE >> maybe (One PATHTYPE) >> One WIDTH >> One XY >> tail

-- a reference that may be turned
abbrev pub turned_reference : Language
turned_reference = One SREF >> flags >> One SNAME >> turned >> One XY >> tail

-- a reference that is repeated in columns and rows, and may be turned
abbrev pub array : Language
array = One AREF >> flags >> One SNAME >> turned >> One COLROW >> One XY >> tail

-- an element of a wide stream
abbrev pub wide_element : Language
wide_element = Either boundary (Either path (Either turned_reference (Either array text)))

-- a wide stream, from HEADER to ENDLIB
abbrev pub wide_stream : Language
wide_stream = stream_of_each wide_element
