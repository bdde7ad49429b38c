-- What a stage of the reader answers: the first fault that it looks for, or what it read.
use Rattle.std.specs.Prelude.{◌≡◌, Option, Some, None, Result, Ok, Err, []}
use Rattle.toml.specs.Data.{Members}
use Rattle.cell_library.specs.declared.draft.Numbers.{Numbers}
use Rattle.cell_library.specs.Code.Drafts.{drafted}
use Rattle.cell_library.specs.Laws.{InRanges, Holds, GivesMandatory}
use Rattle.cell_library.specs.Library.{LibraryView}
use Rattle.cell_library.specs.Faults.{table_fault}
use Rattle.cell_library.specs.declared.laws.Law.{Law as LawName}
use Rattle.cell_library.specs.Says.{library_of, LibFault}
use Rattle.cell_library.specs.declared.fault.LibraryFault.{LibraryFault}
use Rattle.cell_library.specs.declared.fault.LibraryRefusal.{LibraryRefusal}
use Rattle.cell_library.specs.declared.fault.LibraryRefusal.TheVariants.{Bad, Memory}

-- the refusal is for this fault, or for want of memory
abbrev pub RefusesFor : LibraryFault → LibraryRefusal → Type 0
RefusesFor fault (Bad found) = found ≡ fault
RefusesFor fault Memory = Unit {0}

-- without a fault something was read of which this holds, and with one it is refused for that
abbrev pub Judges : {X : Type 0} → Option LibraryFault → (X → Type 0) → Result X LibraryRefusal → Type 0
Judges fault Holds (Ok x) = (fault ≡ None) × Holds x
Judges fault Holds (Err (Bad found)) = fault ≡ Some found
Judges fault Holds (Err Memory) = Unit {0}

-- the numbers are those of the table, in their ranges
pub record IsNumbersOf (ms : Members) (numbers : Numbers) : Type 0 where
  pub values : drafted numbers (library_of ms).pins ≡ library_of ms
  pub ranges : InRanges (drafted numbers [])

-- the draft is that of the table, and gives each kind that no library leaves out
pub record IsDraftOf (ms : Members) (draft : LibraryView) : Type 0 where
  pub values : draft ≡ library_of ms
  pub given : GivesMandatory draft

-- a table is a library, or has a first fault
abbrev pub IsJudged : Members → Result LibraryView LibraryRefusal → Type 0
IsJudged ms (Ok library) = (table_fault ms ≡ None) × (library ≡ library_of ms) × ((law : LawName) → Holds law library)
IsJudged ms (Err (Bad fault)) = LibFault ms fault
IsJudged ms (Err Memory) = Unit {0}
