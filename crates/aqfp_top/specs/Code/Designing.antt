-- The chip that the steps from texts to a layout make.
use Rattle.std.specs.Prelude.{ℕ, ◌≡◌, ◌≤◌, ◌⊎◌, List, length}
use Rattle.blif_read.specs.Parts.{NetView}
use Rattle.cell_library.specs.Library.{LibraryView}
use Rattle.gds_records.specs.Writing.{bytes_of}
use Rattle.rowed.specs.PlacedNets.{PlacedView}
use Rattle.rowed.specs.Counts.{cells_in, wires_in}
use Rattle.plan_build.specs.declared.refusal.PlanRefusal.{PlanRefusal}
use Rattle.plan_build.specs.declared.refusal.PlanRefusal.TheVariants as refusal
use Rattle.plan_compact.specs.Compact.{IsPlanned, IsCompactChip}
use Rattle.plan_draw.specs.DrawnChips.{IsDrawnChip}
use Rattle.plan_draw.specs.declared.refusal.CellPlanRefusal.{CellPlanRefusal}
use Rattle.plan_draw.specs.declared.refusal.CellPlanRefusal.TheVariants as own
use Rattle.aqfp_top.specs.Designs.{SaysDesign, IsChipFor, IsPlanBy, PlanFinds, PlanGivesUp, stream_of}
use Rattle.aqfp_top.specs.declared.planner.Planner.{Planner}
use Rattle.aqfp_top.specs.declared.planner.Planner.TheVariants.{Build, Compact, Draw}
use Rattle.aqfp_top.specs.declared.counts.ChipCounts.{ChipCounts}
use Rattle.aqfp_top.specs.declared.design.Chip.{Chip}
use Rattle.aqfp_top.specs.declared.fault.Large.TheVariants.{Slots, Rows, Cells, Elements, Shapes, Functions}
use Rattle.aqfp_top.specs.declared.fault.Fault.{Fault}
use Rattle.aqfp_top.specs.declared.fault.Fault.TheVariants.{BadBlif, BadDesign, BadLibrary, MissingCell, TooLarge}
use Rattle.aqfp_top.specs.declared.fault.Fault.TheVariants.{NotCells, Memory}

-- these are the counts of a placed net, which has some row
pub record AreCountsOf (placed : PlacedView) (counts : ChipCounts) : Type 0 where
  pub rows : counts.rows ≡ length placed.net.rows
  pub cells : counts.cells ≡ cells_in placed.net.rows
  pub wires : counts.wires ≡ wires_in placed.net.rows
  pub some : 1 ≤ counts.rows

-- the layout and the counts are those of the placed net
pub record IsDrawn (placed : PlacedView) (cells : LibraryView) (chip : Chip) : Type 0 where
  pub stream : bytes_of chip.layout ≡ stream_of placed cells
  pub counts : AreCountsOf placed chip.counts

-- the layout and the counts are those of a chip of the netlist by this plan
pub record IsChipOf (planner : Planner) (equations : NetView) (cells : LibraryView) (chip : Chip) : Type 0 where
  pub placed : PlacedView
  pub of_net : IsChipFor equations cells placed
  pub planned : IsPlanBy planner equations cells placed
  pub drawn : IsDrawn placed cells chip

-- the texts say a netlist and a library, of which this is a chip by this plan
pub record MakesChip (planner : Planner) (net lib : List ℕ) (chip : Chip) : Type 0 where
  pub equations : NetView
  pub cells : LibraryView
  pub says : SaysDesign net lib equations cells
  pub made : IsChipOf planner equations cells chip

-- the placed net was planned: it is that of the defined plan, or one that was searched for, or of the netlist's own
-- cells
abbrev pub IsPlannedBy : Planner → NetView → LibraryView → PlacedView → Type 0
IsPlannedBy Build equations cells placed = IsPlanned cells equations placed
IsPlannedBy Compact equations cells placed = IsCompactChip cells equations placed
IsPlannedBy Draw equations cells placed = IsDrawnChip cells equations placed

-- the fault that tells a plan's refusal
abbrev pub plan_fault : PlanRefusal → Fault
plan_fault (refusal.Slots span) = TooLarge Slots span
plan_fault (refusal.Rows rows) = TooLarge Rows rows
plan_fault (refusal.Cells cells) = TooLarge Cells cells
plan_fault refusal.Memory = Memory

-- the fault that tells a refusal of the netlist's own cells
abbrev pub own_fault : CellPlanRefusal → Fault
own_fault (own.NotCells line kind) = NotCells line kind
own_fault (own.Slots span) = TooLarge Slots span
own_fault (own.Cells cells) = TooLarge Cells cells
own_fault (own.Rows rows) = TooLarge Rows rows
own_fault (own.Elements elements) = TooLarge Elements elements
own_fault own.Memory = Memory

-- what a plan refuses: what it finds, or the limit for which it gives up
abbrev pub PlanRefuses : Planner → NetView → LibraryView → Fault → Type 0
PlanRefuses planner equations cells (TooLarge what count) =
    PlanFinds planner equations cells (TooLarge what count) ⊎ PlanGivesUp planner equations cells what count
PlanRefuses planner equations cells fault = PlanFinds planner equations cells fault

-- the plan finds nothing
abbrev pub IsWellPlanned : Planner → NetView → LibraryView → Type 0
IsWellPlanned planner equations cells = (fault : Fault) → ¬ PlanFinds planner equations cells fault

-- the faults of reading a netlist and a library and of planning
abbrev pub IsDesignFault : Planner → Fault → Type 0
IsDesignFault planner (BadBlif fault) = Unit {0}
IsDesignFault planner (BadDesign line kind) = Unit {0}
IsDesignFault planner (BadLibrary fault) = Unit {0}
IsDesignFault planner (MissingCell kind) = Unit {0}
IsDesignFault planner (TooLarge Shapes count) = ⊥
IsDesignFault planner (TooLarge Functions count) = ⊥
IsDesignFault planner (TooLarge what count) = Unit {0}
IsDesignFault planner (NotCells line kind) = planner ≡ Draw
IsDesignFault planner Memory = Unit {0}
IsDesignFault planner _ = ⊥
