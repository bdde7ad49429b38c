-- When a text says a library, and what its first fault is. That a text is a document, and of which table, is TOML's
-- meaning.
use Rattle.std.specs.Prelude.{ℕ, ℤ, pos, negsuc, ◌≡◌, List, [], map, codes, IsUtf8}
use Rattle.std.specs.Prelude.{Option, Some, None, unwrap_or, option_map, Result, Ok, Err}
use Rattle.toml.specs.Data.{Members}
use Rattle.toml.specs.Parse.{parse_document}
use Rattle.circuit.specs.declared.cell_kind.CellKind.{CellKind}
use Rattle.cell_library.specs.declared.draft.Pins.{Pins}
use Rattle.cell_library.specs.declared.laws.Law.{Law as LawName}
use Rattle.cell_library.specs.declared.fault.LibraryFault.{LibraryFault}
use Rattle.cell_library.specs.declared.fault.LibraryFault.TheVariants.{Text, Law}
use Rattle.cell_library.specs.declared.fault.LibraryRefusal.{LibraryRefusal}
use Rattle.cell_library.specs.declared.fault.LibraryRefusal.TheVariants.{Bad, Memory}
use Rattle.layout_rules.specs.Limits.{Limits}
use Rattle.cell_library.specs.Kinds.{all_kinds, key_of}
use Rattle.cell_library.specs.Library.{LibraryView}
use Rattle.cell_library.specs.Laws.{Holds, BreaksFirst}
use Rattle.cell_library.specs.Documents.{integer_under, integers_under, table_under}
use Rattle.cell_library.specs.Faults.{table_fault}

-- an integer as a natural number
abbrev pub natural : ℤ → ℕ
natural (pos n) = n
natural (negsuc n) = 0

-- the number under a key
abbrev pub number_under : Members → List ℕ → ℕ
number_under ms key = natural (unwrap_or (integer_under ms key) (pos 0))

-- the columns under a key
abbrev pub columns_under : Members → List ℕ → List ℕ
columns_under ms key = map natural (unwrap_or (integers_under ms key) [])

-- the pins of a kind by its table
abbrev pub pins_in : Members → Pins
pins_in inner = record {
  inputs = columns_under inner (codes "inputs");
  outputs = columns_under inner (codes "outputs");
}

-- the pins of a kind that has a table
abbrev pub pins_under : Members → CellKind → Option Pins
pins_under ms kind = option_map pins_in (table_under ms (key_of kind))

-- the values of a table without faults
abbrev pub library_of : Members → LibraryView
library_of ms = record {
  wire = number_under ms (codes "wire");
  space = number_under ms (codes "space");
  via = number_under ms (codes "via");
  enclose = number_under ms (codes "enclose");
  pin = number_under ms (codes "pin");
  height = number_under ms (codes "height");
  pitch = number_under ms (codes "pitch");
  columns = number_under ms (codes "columns");
  capacity = number_under ms (codes "capacity");
  limit = number_under ms (codes "limit");
  pins = map (pins_under ms) all_kinds;
}

-- the numbers that the rules of geometry read, as a table gives them; a number that is not there counts as 0
abbrev pub limits_in : Members → Limits
limits_in ms = record {
  wire = number_under ms (codes "wire");
  space = number_under ms (codes "space");
  via = number_under ms (codes "via");
  enclose = number_under ms (codes "enclose");
  pin = number_under ms (codes "pin");
  limit = number_under ms (codes "limit");
}

-- the text is a document of this table
pub record IsDocument (text : List ℕ) (table : Members) : Type 0 where
  pub utf8 : IsUtf8 text
  pub parsed : parse_document text ≡ Some table

-- the text is no document
abbrev pub IsRefused : List ℕ → Type 0
IsRefused text = IsUtf8 text → parse_document text ≡ None

-- the text is a document that gives the rules these numbers
pub record SaysLimits (text : List ℕ) (limits : Limits) : Type 0 where
  pub table : Members
  pub document : IsDocument text table
  pub values : limits ≡ limits_in table

-- the text says this library
pub record SaysLibrary (text : List ℕ) (library : LibraryView) : Type 0 where
  pub table : Members
  pub document : IsDocument text table
  pub faultless : table_fault table ≡ None
  pub values : library ≡ library_of table
  pub laws : (law : LawName) → Holds law library

-- the first fault of a table is this
abbrev pub LibFault : Members → LibraryFault → Type 0
LibFault table (Law number) = (table_fault table ≡ None) × BreaksFirst (library_of table) number
LibFault table Text = ⊥
LibFault table fault = table_fault table ≡ Some fault

-- the first fault of a text that is a document is this
pub record HasFault (text : List ℕ) (fault : LibraryFault) : Type 0 where
  pub table : Members
  pub document : IsDocument text table
  pub first : LibFault table fault

-- what the answer of a reader says of the text
abbrev pub Answers : List ℕ → Result LibraryView LibraryRefusal → Type 0
Answers text (Ok library) = SaysLibrary text library
Answers text (Err (Bad Text)) = IsRefused text
Answers text (Err (Bad fault)) = HasFault text fault
Answers text (Err Memory) = Unit {0}
