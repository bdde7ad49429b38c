-- The stages of the work of a command, which fault each finds, and which answer is due after them.
use Rattle.std.specs.Prelude.{ℕ, ◌⊎◌, List, [], ◌∷◌, Option, Some, None}
use Rattle.cell_library.specs.Library.{LibraryView}
use Rattle.aqfp_top.specs.Designs.{HasNetlist, HasDesign, IsNetlistFault, IsPlainFault, IsCellsFault}
use Rattle.aqfp_top.specs.Designs.{IsPlanFault, PlanFinds, PlanGivesUp}
use Rattle.aqfp_top.specs.Checks.{IsStreamFault, IsSizeFault, IsRuleFault, IsWordsFault}
use Rattle.aqfp_top.specs.Shown.{IsNumberFault}
use Rattle.aqfp_top.specs.Comparing.{IsWidthsFault, HasManyFunctions}
use Rattle.aqfp_top.specs.declared.planner.Planner.{Planner}
use Rattle.aqfp_top.specs.declared.fault.Large.{Large}
use Rattle.aqfp_top.specs.declared.fault.Large.TheVariants.{Functions}
use Rattle.aqfp_top.specs.declared.fault.Fault.{Fault}
use Rattle.aqfp_top.specs.declared.fault.Fault.TheVariants.{Usage, ReadFault, WriteFault, TooLarge}
use Rattle.aqfp_top.specs.declared.fault.Fault.TheVariants.{Memory}

-- A stage, and what it judges: the words, which have no form; or texts, which are the bytes of files. A sample has a
-- text of one model without calls, and plans with a library that is known. A comparison finds no fault, and may give up;
-- nor does the search for a compact chip, which may give up where the defined plan passes a limit. The search for the
-- order of a netlist's own cells finds that it is none of cells, and may give up where the plain order passes a limit.
pub data Stage : Type 0 where
  Form : Stage
  Netlist : (net : List ℕ) → Stage
  Plain : (net : List ℕ) → Stage
  Cells : (lib : List ℕ) → Stage
  Plan : (planner : Planner) (net lib : List ℕ) → Stage
  PlanWith : (net : List ℕ) (cells : LibraryView) → Stage
  Stream : (gds : List ℕ) → Stage
  Size : (gds : List ℕ) → Stage
  Rules : (gds lib : List ℕ) → Stage
  Words : (gds lib text : List ℕ) → Stage
  Counts : (gds lib net : List ℕ) → Stage
  Comparison : (gds lib net : List ℕ) → Stage
  Numbers : (gds : List ℕ) (first second : ℕ) → Stage

-- the words have no form
abbrev pub IsFormFault : Fault → Type 0
IsFormFault Usage = Unit {0}
IsFormFault _ = ⊥

-- the stage finds this fault
abbrev pub Finds : Stage → Fault → Type 0
Finds Form fault = IsFormFault fault
Finds (Netlist net) fault = IsNetlistFault net fault
Finds (Plain net) fault = IsPlainFault net fault
Finds (Cells lib) fault = IsCellsFault lib fault
Finds (Plan planner net lib) fault = HasDesign net lib (λ equations cells. PlanFinds planner equations cells fault)
Finds (PlanWith net cells) fault = HasNetlist net (λ equations. IsPlanFault equations cells fault)
Finds (Stream gds) fault = IsStreamFault gds fault
Finds (Size gds) fault = IsSizeFault gds fault
Finds (Rules gds lib) fault = IsRuleFault gds lib fault
Finds (Words gds lib text) fault = IsWordsFault gds lib text fault
Finds (Counts gds lib net) fault = IsWidthsFault gds lib net fault
Finds (Comparison gds lib net) fault = ⊥
Finds (Numbers gds first second) fault = IsNumberFault gds first second fault

-- the stage finds no fault
abbrev pub FindsNone : Stage → Type 0
FindsNone stage = (fault : Fault) → ¬ Finds stage fault

-- the first of the stages that finds a fault finds this one; none, where no stage finds one
abbrev pub IsFirst : List Stage → Option Fault → Type 0
IsFirst [] None = Unit {0}
IsFirst [] (Some fault) = ⊥
IsFirst (stage ∷ stages) None = FindsNone stage × IsFirst stages None
IsFirst (stage ∷ stages) (Some fault) = Finds stage fault ⊎ (FindsNone stage × IsFirst stages (Some fault))

-- the stage gives up for a size: it is a comparison of two circuits with more subfunctions than are compared, or the
-- search for a chip where the one that is made without it passes this limit first
abbrev pub GivesUp : Stage → Large → ℕ → Type 0
GivesUp (Comparison gds lib net) Functions count = HasManyFunctions gds lib net count
GivesUp (Plan planner net lib) what count =
    HasDesign net lib (λ equations cells. PlanGivesUp planner equations cells what count)
GivesUp _ what count = ⊥

-- so does one of the stages
abbrev pub SomeGivesUp : List Stage → Large → ℕ → Type 0
SomeGivesUp [] what count = ⊥
SomeGivesUp (stage ∷ stages) what count = GivesUp stage what count ⊎ SomeGivesUp stages what count

-- What the stages may answer: what is due; or want of memory; or, where nothing is due, a refused write, or the size for
-- which a stage gives up.
abbrev pub Answers : List Stage → Option Fault → Type 0
Answers stages (Some Memory) = Unit {0}
Answers stages (Some (ReadFault place)) = ⊥
Answers stages (Some (WriteFault call)) = IsFirst stages None
Answers stages (Some (TooLarge what count)) =
    IsFirst stages (Some (TooLarge what count)) ⊎ (IsFirst stages None × SomeGivesUp stages what count)
Answers stages answer = IsFirst stages answer
