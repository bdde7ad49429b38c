-- Which faults the commands may answer, whatever the store tells.
use Rattle.std.specs.Prelude.{ℕ, ◌≡◌, List}
use Rattle.aqfp_top.specs.Loads.{build_loads, check_loads, equal_loads, write_loads, shapes_loads, IsLoaded, IsPast}
use Rattle.aqfp_top.specs.Words.{IsMakeBy, IsCheck, IsEqual, IsWrite, IsReport, IsShapes, IsSample, HasForm}
use Rattle.aqfp_top.specs.Lines.{HasPlace}
use Rattle.aqfp_top.specs.declared.planner.Planner.{Planner}
use Rattle.aqfp_top.specs.declared.planner.Planner.TheVariants.{Draw}
use Rattle.aqfp_top.specs.declared.fault.Large.TheVariants.{Shapes, Functions, Design}
use Rattle.aqfp_top.specs.declared.fault.WriteCall.TheVariants.{Out}
use Rattle.aqfp_top.specs.declared.fault.Fault.{Fault}
use Rattle.aqfp_top.specs.declared.fault.Fault.TheVariants.{Usage, Absent, TooLong, ReadFault, WriteFault, BadBlif}
use Rattle.aqfp_top.specs.declared.fault.Fault.TheVariants.{BadDesign, BadLibrary, MissingCell, TooLarge, BadStream}
use Rattle.aqfp_top.specs.declared.fault.Fault.TheVariants.{RuleBroken, BadWords, Widths, NoShape, NotCells, Memory}

-- of making a chip by this plan: none of words, of a stream or of rules; and that a netlist is none of cells where its
-- own cells are drawn
abbrev pub IsBuildFault : Planner → Fault → Type 0
IsBuildFault planner (Absent place) = IsLoaded build_loads place
IsBuildFault planner (TooLong place taken) = IsPast build_loads place taken
IsBuildFault planner (ReadFault place) = IsLoaded build_loads place
IsBuildFault planner (WriteFault call) = Unit {0}
IsBuildFault planner (BadBlif fault) = Unit {0}
IsBuildFault planner (BadDesign line kind) = Unit {0}
IsBuildFault planner (BadLibrary fault) = Unit {0}
IsBuildFault planner (MissingCell kind) = Unit {0}
IsBuildFault planner (TooLarge Shapes count) = ⊥
IsBuildFault planner (TooLarge Functions count) = ⊥
IsBuildFault planner (TooLarge what count) = Unit {0}
IsBuildFault planner (NotCells line kind) = planner ≡ Draw
IsBuildFault planner Memory = Unit {0}
IsBuildFault planner _ = ⊥

-- a check's: none of a netlist or of a plan, nor of writing but to `out`
abbrev pub IsCheckFault : Fault → Type 0
IsCheckFault (Absent place) = IsLoaded check_loads place
IsCheckFault (TooLong place taken) = IsPast check_loads place taken
IsCheckFault (ReadFault place) = IsLoaded check_loads place
IsCheckFault (WriteFault call) = call ≡ Out
IsCheckFault (BadLibrary fault) = Unit {0}
IsCheckFault (MissingCell kind) = Unit {0}
IsCheckFault (TooLarge Shapes count) = Unit {0}
IsCheckFault (BadStream offset kind) = Unit {0}
IsCheckFault (RuleBroken rule first second) = Unit {0}
IsCheckFault (BadWords line) = Unit {0}
IsCheckFault Memory = Unit {0}
IsCheckFault _ = ⊥

-- a comparison's: none of words or of a plan, nor of writing but to `out`
abbrev pub IsEqualFault : Fault → Type 0
IsEqualFault (Absent place) = IsLoaded equal_loads place
IsEqualFault (TooLong place taken) = IsPast equal_loads place taken
IsEqualFault (ReadFault place) = IsLoaded equal_loads place
IsEqualFault (WriteFault call) = call ≡ Out
IsEqualFault (BadBlif fault) = Unit {0}
IsEqualFault (BadDesign line kind) = Unit {0}
IsEqualFault (BadLibrary fault) = Unit {0}
IsEqualFault (MissingCell kind) = Unit {0}
IsEqualFault (TooLarge Shapes count) = Unit {0}
IsEqualFault (TooLarge Functions count) = count ≡ 1000001
IsEqualFault (TooLarge Design count) = Unit {0}
IsEqualFault (BadStream offset kind) = Unit {0}
IsEqualFault (RuleBroken rule first second) = Unit {0}
IsEqualFault (Widths chip_inputs chip_outputs net_inputs net_outputs) = Unit {0}
IsEqualFault Memory = Unit {0}
IsEqualFault _ = ⊥

-- of writing a chip's netlist: those of a check but words, and all of writing
abbrev pub IsWritingFault : Fault → Type 0
IsWritingFault (Absent place) = IsLoaded write_loads place
IsWritingFault (TooLong place taken) = IsPast write_loads place taken
IsWritingFault (ReadFault place) = IsLoaded write_loads place
IsWritingFault (WriteFault call) = Unit {0}
IsWritingFault (BadLibrary fault) = Unit {0}
IsWritingFault (MissingCell kind) = Unit {0}
IsWritingFault (TooLarge Shapes count) = Unit {0}
IsWritingFault (BadStream offset kind) = Unit {0}
IsWritingFault (RuleBroken rule first second) = Unit {0}
IsWritingFault Memory = Unit {0}
IsWritingFault _ = ⊥

-- a report's: those of a check but words
abbrev pub IsReportFault : Fault → Type 0
IsReportFault (WriteFault call) = call ≡ Out
IsReportFault fault = IsWritingFault fault

-- of naming shapes: those of one file and its stream, and of the numbers
abbrev pub IsShapesFault : Fault → Type 0
IsShapesFault (Absent place) = IsLoaded shapes_loads place
IsShapesFault (TooLong place taken) = IsPast shapes_loads place taken
IsShapesFault (ReadFault place) = IsLoaded shapes_loads place
IsShapesFault (WriteFault call) = call ≡ Out
IsShapesFault (TooLarge Shapes count) = Unit {0}
IsShapesFault (BadStream offset kind) = Unit {0}
IsShapesFault (NoShape number count) = Unit {0}
IsShapesFault Memory = Unit {0}
IsShapesFault _ = ⊥

-- a sample's: none of a file, a library or words, nor of writing but to `out`
abbrev pub IsSampleFault : Fault → Type 0
IsSampleFault (WriteFault call) = call ≡ Out
IsSampleFault (BadBlif fault) = Unit {0}
IsSampleFault (TooLarge Shapes count) = ⊥
IsSampleFault (TooLarge Functions count) = ⊥
IsSampleFault (TooLarge Design count) = ⊥
IsSampleFault (TooLarge what count) = Unit {0}
IsSampleFault Memory = Unit {0}
IsSampleFault _ = ⊥

-- the faults that words may lead to; the place that one names is one of the words
pub record RunsOnly (words : List (List ℕ)) (fault : Fault) : Type 0 where
  pub make : (planner : Planner) → IsMakeBy planner words → IsBuildFault planner fault
  pub check : IsCheck words → IsCheckFault fault
  pub sample : IsSample words → IsSampleFault fault
  pub equal : IsEqual words → IsEqualFault fault
  pub write : IsWrite words → IsWritingFault fault
  pub report : IsReport words → IsReportFault fault
  pub shapes : IsShapes words → IsShapesFault fault
  pub otherwise : ¬ HasForm words → fault ≡ Usage
  pub place : HasPlace words fault
