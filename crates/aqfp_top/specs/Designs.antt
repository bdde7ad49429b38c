-- What a build makes of the texts of a netlist and of a library: their chip, or a fault of the one, of the other, or
-- of the chip.
use Rattle.std.specs.Prelude.{ℕ, ◌≡◌, ◌<◌, ◌≤◌, List, length}
use Rattle.blif_read.specs.Parts.{NetView}
use Rattle.blif_read.specs.Netlist.{IsNetlist}
use Rattle.blif_read.specs.Says as plain
use Rattle.blif_flat.specs.DesignText as netlist
use Rattle.blif_flat.specs.declared.design.FlatRefusal.TheVariants as refusal
use Rattle.rowed.specs.PlacedNets.{PlacedView}
use Rattle.rowed.specs.Counts.{cells_in, wires_in}
use Rattle.cell_library.specs.Says as library
use Rattle.cell_library.specs.Library.{LibraryView}
use Rattle.cell_library.specs.Laws.{IsLibrary}
use Rattle.cell_library.specs.declared.fault.LibraryFault.{LibraryFault}
use Rattle.cell_library.specs.declared.fault.LibraryFault.TheVariants.{Text, Missing}
use Rattle.gds_records.specs.Writing.{bytes_of}
use Rattle.text_answers.specs.Counts.{counts_text}
use Rattle.layout_make.specs.Draw.{draw}
use Rattle.layout_make.specs.Size.{element_number}
use Rattle.rowed.specs.Limits.{element_limit}
use Rattle.layout_make.specs.MayDraw.{MayDraw}
use Rattle.plan_build.specs.Laws.{AnswersAs}
use Rattle.plan_build.specs.Plans.{IsWithin, chip_of, three_of}
use Rattle.plan_build.specs.Refusals.{Refuses}
use Rattle.plan_build.specs.declared.refusal.PlanRefusal.TheVariants as plan
use Rattle.plan_compact.specs.Compact.{IsNoLarger}
use Rattle.cell_netlist.specs.Told.{HasFirstFault}
use Rattle.plan_draw.specs.CellPlans.{IsCellChip}
use Rattle.plan_draw.specs.DrawnChips.{IsDrawnChip}
use Rattle.plan_draw.specs.Refusals.{RefusesCells}
use Rattle.plan_draw.specs.declared.refusal.CellPlanRefusal.TheVariants as own
use Rattle.aqfp_top.specs.declared.planner.Planner.{Planner}
use Rattle.aqfp_top.specs.declared.planner.Planner.TheVariants.{Build, Compact, Draw}
use Rattle.aqfp_top.specs.declared.fault.Large.{Large}
use Rattle.aqfp_top.specs.declared.fault.Large.TheVariants.{Slots, Rows, Cells, Elements, Shapes, Functions, Design}
use Rattle.aqfp_top.specs.declared.fault.Fault.{Fault}
use Rattle.aqfp_top.specs.declared.fault.Fault.TheVariants.{BadBlif, BadDesign, BadLibrary, MissingCell, TooLarge}
use Rattle.aqfp_top.specs.declared.fault.Fault.TheVariants.{NotCells}

-- the text says some library
pub record SaysLibrary (text : List ℕ) : Type 0 where
  pub view : LibraryView
  pub says : library.SaysLibrary text view

-- the texts say this netlist and this library
pub record SaysDesign (net lib : List ℕ) (equations : NetView) (cells : LibraryView) : Type 0 where
  pub net_says : netlist.SaysNetlist net equations
  pub lib_says : library.SaysLibrary lib cells

-- the texts say a netlist and a library of which this holds
pub record HasDesign (net lib : List ℕ) (Holds : NetView → LibraryView → Type 0) : Type 0 where
  pub equations : NetView
  pub cells : LibraryView
  pub says : SaysDesign net lib equations cells
  pub holds : Holds equations cells

-- the text, of one model without calls, says a netlist of which this holds
pub record HasNetlist (net : List ℕ) (Holds : NetView → Type 0) : Type 0 where
  pub equations : NetView
  pub says : plain.SaysNet net equations
  pub holds : Holds equations

-- the chip of the defined plan keeps all limits
pub record KeepsLimits (equations : NetView) (cells : LibraryView) : Type 0 where
  pub within : IsWithin cells equations
  pub small : element_number (chip_of cells equations) ≤ element_limit

-- the netlist is one of cells, and the chip of these cells, where they stand as plainly as can be, keeps all limits
pub record HasCellChip (equations : NetView) (cells : LibraryView) : Type 0 where
  pub chip : PlacedView
  pub of_cells : IsCellChip cells equations chip

-- the chip is the one that the defined plan makes of the netlist, which keeps all limits; or one that was searched for,
-- which is no larger than that one, if that one keeps all limits; or the netlist's own cells
abbrev pub IsPlanBy : Planner → NetView → LibraryView → PlacedView → Type 0
IsPlanBy Build equations cells chip = (chip ≡ chip_of cells equations) × IsWithin cells equations
IsPlanBy Compact equations cells chip = IsWithin cells equations → IsNoLarger chip (chip_of cells equations)
IsPlanBy Draw equations cells chip = IsDrawnChip cells equations chip

-- a chip of a netlist: rows of placed cells that may be drawn with the library and answer every word as the netlist
-- does, with few enough elements
pub record IsChipFor (equations : NetView) (cells : LibraryView) (chip : PlacedView) : Type 0 where
  pub keeps : IsNetlist equations
  pub lawful : IsLibrary cells
  pub draws : MayDraw chip cells
  pub answers : AnswersAs equations chip
  pub small : element_number chip ≤ element_limit

-- the stream of a chip: drawn and spelled
unfoldable pub stream_of : PlacedView → LibraryView → List ℕ
stream_of chip cells = bytes_of (draw chip cells)

-- the counts line of a chip
unfoldable pub counts_of : PlacedView → List ℕ
counts_of chip = counts_text (length chip.net.rows) (cells_in chip.net.rows) (wires_in chip.net.rows)

-- the defined plan is within its limits, and its drawing would have too many elements: so many
pub record HasManyElements (equations : NetView) (cells : LibraryView) (count : ℕ) : Type 0 where
  pub within : IsWithin cells equations
  pub count_is : count ≡ element_number (chip_of cells equations)
  pub above : element_limit < count

-- of what the chip of the netlist has too much, and how much: the first limit that it passes, in the order of the work
abbrev pub HasTooMuch : NetView → LibraryView → Large → ℕ → Type 0
HasTooMuch equations cells Slots count = Refuses cells equations (plan.Slots count)
HasTooMuch equations cells Rows count = Refuses cells equations (plan.Rows count)
HasTooMuch equations cells Cells count = Refuses cells equations (plan.Cells count)
HasTooMuch equations cells Elements count = HasManyElements equations cells count
HasTooMuch equations cells Shapes count = ⊥
HasTooMuch equations cells Functions count = ⊥
HasTooMuch equations cells Design count = ⊥

-- the first fault of a library's text: it is no TOML document, or its table or its laws have this fault
abbrev pub IsCellFault : List ℕ → LibraryFault → Type 0
IsCellFault text Text = library.IsRefused text
IsCellFault text fault = library.HasFault text fault

-- of what the chip of the netlist's own cells has too much, where they stand as plainly as can be
abbrev pub HasTooMuchOfOwn : NetView → LibraryView → Large → ℕ → Type 0
HasTooMuchOfOwn equations cells Slots count = RefusesCells cells equations (own.Slots count)
HasTooMuchOfOwn equations cells Rows count = RefusesCells cells equations (own.Rows count)
HasTooMuchOfOwn equations cells Cells count = RefusesCells cells equations (own.Cells count)
HasTooMuchOfOwn equations cells Elements count = RefusesCells cells equations (own.Elements count)
HasTooMuchOfOwn equations cells Shapes count = ⊥
HasTooMuchOfOwn equations cells Functions count = ⊥
HasTooMuchOfOwn equations cells Design count = ⊥

-- the plan finds no fault and keeps all limits: the defined one, also where a smaller chip is searched for; or that of
-- the netlist's own cells
abbrev pub KeepsPlan : Planner → NetView → LibraryView → Type 0
KeepsPlan Build equations cells = KeepsLimits equations cells
KeepsPlan Compact equations cells = KeepsLimits equations cells
KeepsPlan Draw equations cells = HasCellChip equations cells

-- this is wrong with a netlist's text first: a line or a cycle, or its models and calls, or their size
abbrev pub IsNetlistFault : List ℕ → Fault → Type 0
IsNetlistFault text (BadBlif fault) = netlist.IsNetlistRefusal text (refusal.Text fault)
IsNetlistFault text (BadDesign line kind) = netlist.IsNetlistRefusal text (refusal.Design line kind)
IsNetlistFault text (TooLarge Design count) = netlist.IsNetlistRefusal text (refusal.TooMany count)
IsNetlistFault text _ = ⊥

-- this is wrong with a text of one model without calls first
abbrev pub IsPlainFault : List ℕ → Fault → Type 0
IsPlainFault text (BadBlif fault) = plain.Fault text fault
IsPlainFault text _ = ⊥

-- a library's text has this fault; that a kind of cell is missing has a status of its own
abbrev pub IsCellsFault : List ℕ → Fault → Type 0
IsCellsFault text (BadLibrary (Missing kind)) = ⊥
IsCellsFault text (BadLibrary fault) = IsCellFault text fault
IsCellsFault text (MissingCell kind) = IsCellFault text (Missing kind)
IsCellsFault text _ = ⊥

-- the chip of the netlist has too much of something
abbrev pub IsPlanFault : NetView → LibraryView → Fault → Type 0
IsPlanFault equations cells (TooLarge what count) = HasTooMuch equations cells what count
IsPlanFault equations cells _ = ⊥

-- the netlist is none of cells: its first fault
abbrev pub IsOwnFault : NetView → LibraryView → Fault → Type 0
IsOwnFault equations cells (NotCells line kind) = HasFirstFault equations (three_of cells) line kind
IsOwnFault equations cells _ = ⊥

-- what is wrong with a plan: the first limit that the defined one passes, or that a netlist is none of cells; a search
-- finds nothing wrong
abbrev pub PlanFinds : Planner → NetView → LibraryView → Fault → Type 0
PlanFinds Build equations cells fault = IsPlanFault equations cells fault
PlanFinds Compact equations cells fault = ⊥
PlanFinds Draw equations cells fault = IsOwnFault equations cells fault

-- the limit for which a search gives up: the first that the chip passes that is made where it finds none
abbrev pub PlanGivesUp : Planner → NetView → LibraryView → Large → ℕ → Type 0
PlanGivesUp Build equations cells what count = ⊥
PlanGivesUp Compact equations cells what count = HasTooMuch equations cells what count
PlanGivesUp Draw equations cells what count = HasTooMuchOfOwn equations cells what count
