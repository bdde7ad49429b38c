-- From the clauses of the steps to those of a chip that is made of two texts.
use Rattle.std.proofs.Common.{ℕ, ◌≡◌, ◌<◌, ◌≤◌, ◌^◌, ◌⊎◌, List, [], ◌∷◌, length, Some, None, inl, inr, refl, subst, sym}
use Rattle.std.proofs.Common.{ap, ◌∙◌}
use Rattle.std.proofs.Common.{arith, le_refl}
use Rattle.blif_flat.proofs.SaidNets.{one_net}
use Rattle.blif_read.specs.Parts.{NetView}
use Rattle.blif_flat.specs.DesignText as netlist
use Rattle.rowed.specs.PlacedNets.{PlacedView, IsPlaced}
use Rattle.rowed.specs.Counts.{cells_in, wires_in}
use Rattle.cell_library.specs.Library.{LibraryView}
use Rattle.cell_library.specs.Says as library
use Rattle.gds_records.specs.Writing.{bytes_of}
use Rattle.layout_make.specs.Draw.{draw}
use Rattle.layout_make.specs.Size.{element_number}
use Rattle.rowed.specs.Limits.{element_limit}
use Rattle.plan_build.specs.Plans.{IsWithin, chip_of}
use Rattle.plan_build.specs.Refusals.{Refuses}
use Rattle.plan_build.specs.declared.refusal.PlanRefusal.{PlanRefusal}
use Rattle.plan_build.specs.declared.refusal.PlanRefusal.TheVariants as refusal
use Rattle.plan_compact.specs.Compact.{IsNoLarger, IsPlanned}
use Rattle.plan_draw.specs.Refusals.{RefusesCells}
use Rattle.plan_draw.specs.declared.refusal.CellPlanRefusal.{CellPlanRefusal}
use Rattle.plan_draw.specs.declared.refusal.CellPlanRefusal.TheVariants as own
use Rattle.aqfp_top.specs.Designs.{SaysDesign, KeepsLimits, HasManyElements, IsNetlistFault, IsCellsFault, IsPlanFault}
use Rattle.aqfp_top.specs.Designs.{IsChipFor, IsPlanBy, KeepsPlan, PlanFinds, PlanGivesUp, HasTooMuch, HasTooMuchOfOwn}
use Rattle.aqfp_top.specs.Designs.{HasDesign, stream_of}
use Rattle.aqfp_top.specs.Stages as stage
use Rattle.aqfp_top.specs.Stages.{Finds, FindsNone, IsFirst, Answers}
use Rattle.aqfp_top.specs.Due.{design_stages}
use Rattle.aqfp_top.specs.Code.Staging.{OrMemory}
use Rattle.aqfp_top.specs.Code.Designing.{IsDesignFault, AreCountsOf, IsDrawn, IsChipOf, MakesChip, PlanRefuses}
use Rattle.aqfp_top.specs.Code.Designing.{IsPlannedBy}
use Rattle.aqfp_top.specs.Code.Designing.{IsWellPlanned}
use Rattle.aqfp_top.specs.Code.Designing as designing
use Rattle.aqfp_top.specs.declared.planner.Planner.{Planner}
use Rattle.aqfp_top.specs.declared.planner.Planner.TheVariants.{Build, Compact, Draw}
use Rattle.aqfp_top.specs.declared.counts.ChipCounts.{ChipCounts}
use Rattle.aqfp_top.specs.declared.fault.Large.{Large}
use Rattle.aqfp_top.specs.declared.fault.Large.TheVariants.{Slots, Rows, Cells, Elements, Shapes, Functions, Design}
use Rattle.aqfp_top.proofs.Staging.{past, found}
use Rattle.aqfp_top.proofs.OneFault.{says_no_fault, says_no_cells_fault, same_said, many_and_few}
use Rattle.aqfp_top.proofs.OwnCells.{rows_no_fault, large_no_fault, chip_no_fault}
use Rattle.aqfp_top.specs.declared.design.Chip.{Chip}
use Rattle.aqfp_top.specs.declared.fault.Fault.{Fault}
use Rattle.aqfp_top.specs.declared.fault.Fault.TheVariants.{BadBlif, BadDesign, BadLibrary, MissingCell, TooLarge}
use Rattle.aqfp_top.specs.declared.fault.Fault.TheVariants.{NotCells, Memory}

-- the kinds of faults

pub netlist_fault : (planner : Planner) (net : List ℕ) (fault : Fault) → OrMemory (IsNetlistFault net) fault
    → IsDesignFault planner fault
netlist_fault planner net (BadBlif fault) bad = tt
netlist_fault planner net (BadDesign line kind) bad = tt
netlist_fault planner net (TooLarge Design count) bad = tt
netlist_fault planner net Memory bad = tt
netlist_fault planner net _ bad = absurd bad

pub cells_fault : (planner : Planner) (lib : List ℕ) (fault : Fault) → OrMemory (IsCellsFault lib) fault
    → IsDesignFault planner fault
cells_fault planner lib (BadLibrary fault) bad = tt
cells_fault planner lib (MissingCell kind) bad = tt
cells_fault planner lib Memory bad = tt
cells_fault planner lib _ bad = absurd bad

-- a size that no plan refuses
no_size : (planner : Planner) (n : NetView) (l : LibraryView) (what : Large) (count : ℕ)
    → (HasTooMuch n l what count → ⊥)
    → (HasTooMuchOfOwn n l what count → ⊥)
    → PlanFinds planner n l (TooLarge what count) ⊎ PlanGivesUp planner n l what count → ⊥
no_size Build n l what count plain own (inl bad) = plain bad
no_size Build n l what count plain own (inr bad) = bad
no_size Compact n l what count plain own (inl bad) = bad
no_size Compact n l what count plain own (inr bad) = plain bad
no_size Draw n l what count plain own (inl bad) = bad
no_size Draw n l what count plain own (inr bad) = own bad

-- only own cells are none
only_own : (planner : Planner) (n : NetView) (l : LibraryView) (line : ℕ) (kind : _)
    → PlanFinds planner n l (NotCells line kind) → planner ≡ Draw
only_own Build n l line kind bad = absurd bad
only_own Compact n l line kind bad = absurd bad
only_own Draw n l line kind bad = refl

pub plan_fault : (planner : Planner) (equations : NetView) (cells : LibraryView) (fault : Fault)
    → OrMemory (PlanRefuses planner equations cells) fault → IsDesignFault planner fault
plan_fault planner equations cells (TooLarge Slots count) bad = tt
plan_fault planner equations cells (TooLarge Rows count) bad = tt
plan_fault planner equations cells (TooLarge Cells count) bad = tt
plan_fault planner equations cells (TooLarge Elements count) bad = tt
plan_fault planner equations cells (TooLarge Shapes count) bad =
    no_size planner equations cells Shapes count (λ x. x) (λ x. x) bad
plan_fault planner equations cells (TooLarge Functions count) bad =
    no_size planner equations cells Functions count (λ x. x) (λ x. x) bad
plan_fault planner equations cells (TooLarge Design count) bad = tt
plan_fault planner equations cells (NotCells line kind) bad = only_own planner equations cells line kind bad
plan_fault planner equations cells Memory bad = tt
plan_fault Build equations cells _ bad = absurd bad
plan_fault Compact equations cells _ bad = absurd bad
plan_fault Draw equations cells _ bad = absurd bad

-- from the faults of the steps to what the stages answer

pub netlist_answers : (planner : Planner) (net lib : List ℕ) (fault : Fault) → OrMemory (IsNetlistFault net) fault
    → Answers (design_stages planner net lib) (Some fault)
netlist_answers planner net lib fault bad =
    found (stage.Netlist net) (stage.Cells lib ∷ stage.Plan planner net lib ∷ []) fault bad

pub cells_answer : (planner : Planner) (net lib : List ℕ) (view : NetView) (fault : Fault)
    → netlist.SaysNetlist net view → OrMemory (IsCellsFault lib) fault
    → Answers (design_stages planner net lib) (Some fault)
cells_answer planner net lib view fault says bad =
    past (stage.Netlist net) (stage.Cells lib ∷ stage.Plan planner net lib ∷ []) (Some fault)
    (says_no_fault net view says)
    (found (stage.Cells lib) (stage.Plan planner net lib ∷ []) fault bad)

says_design : (net lib : List ℕ) (equations : NetView) (cells : LibraryView) → netlist.SaysNetlist net equations
    → library.SaysLibrary lib cells → SaysDesign net lib equations cells
says_design net lib equations cells net_says lib_says = record { net_says = net_says; lib_says = lib_says }

-- what holds of the plan of the netlist and the library holds of the texts
of_texts : (net lib : List ℕ) (equations : NetView) (cells : LibraryView) (Holds : NetView → LibraryView → Type 0)
    → netlist.SaysNetlist net equations → library.SaysLibrary lib cells → Holds equations cells
    → HasDesign net lib Holds
of_texts net lib equations cells Holds n l holds =
    record { equations = equations; cells = cells; says = says_design net lib equations cells n l; holds = holds }

-- and the other way round
of_plan : (net lib : List ℕ) (equations : NetView) (cells : LibraryView) (Holds : NetView → LibraryView → Type 0)
    → netlist.SaysNetlist net equations → library.SaysLibrary lib cells → HasDesign net lib Holds
    → Holds equations cells
of_plan net lib equations cells Holds n l has =
    subst (λ l. Holds equations l) (same_said lib has.cells cells has.says.lib_says l)
    (subst (λ n. Holds n has.cells) (one_net net has.equations equations has.says.net_says n) has.holds)

-- where a search gives up its plan finds nothing
none_found : (planner : Planner) (n : NetView) (l : LibraryView) (what : Large) (count : ℕ)
    → PlanGivesUp planner n l what count → IsWellPlanned planner n l
none_found Build n l what count large fault bad = large
none_found Compact n l what count large fault bad = bad
none_found Draw n l what count large fault bad = large_no_fault n l what count large fault bad

plan_finds_none : (planner : Planner) (net lib : List ℕ) (equations : NetView) (cells : LibraryView)
    → netlist.SaysNetlist net equations → library.SaysLibrary lib cells → IsWellPlanned planner equations cells
    → FindsNone (stage.Plan planner net lib)
plan_finds_none planner net lib equations cells n l none fault bad =
    none fault (of_plan net lib equations cells (λ e c. PlanFinds planner e c fault) n l bad)

-- what the stage of a plan answers, where the plan finds this, and where it gives up
finds_stage : (planner : Planner) (net lib : List ℕ) (equations : NetView) (cells : LibraryView) (fault : Fault)
    → netlist.SaysNetlist net equations → library.SaysLibrary lib cells → PlanFinds planner equations cells fault
    → Finds (stage.Plan planner net lib) fault
finds_stage planner net lib equations cells fault n l bad =
    of_texts net lib equations cells (λ e c. PlanFinds planner e c fault) n l bad

large_stage : (planner : Planner) (net lib : List ℕ) (equations : NetView) (cells : LibraryView)
    (what : Large) (count : ℕ)
    → netlist.SaysNetlist net equations → library.SaysLibrary lib cells
    → PlanFinds planner equations cells (TooLarge what count) ⊎ PlanGivesUp planner equations cells what count
    → Answers (stage.Plan planner net lib ∷ []) (Some (TooLarge what count))
large_stage planner net lib equations cells what count n l (inl bad) =
    inl (inl (finds_stage planner net lib equations cells (TooLarge what count) n l bad))
large_stage planner net lib equations cells what count n l (inr large) =
    inr (
      (plan_finds_none planner net lib equations cells n l (none_found planner equations cells what count large), tt),
      inl (of_texts net lib equations cells (λ e c. PlanGivesUp planner e c what count) n l large),
    )

plan_stage : (planner : Planner) (net lib : List ℕ) (equations : NetView) (cells : LibraryView) (fault : Fault)
    → netlist.SaysNetlist net equations → library.SaysLibrary lib cells
    → OrMemory (PlanRefuses planner equations cells) fault → Answers (stage.Plan planner net lib ∷ []) (Some fault)
plan_stage planner net lib equations cells (TooLarge what count) n l bad =
    large_stage planner net lib equations cells what count n l bad
plan_stage planner net lib equations cells (NotCells line kind) n l bad =
    inl (finds_stage planner net lib equations cells (NotCells line kind) n l bad)
plan_stage planner net lib equations cells Memory n l bad = tt
plan_stage Build net lib equations cells _ n l bad = absurd bad
plan_stage Compact net lib equations cells _ n l bad = absurd bad
plan_stage Draw net lib equations cells _ n l bad = absurd bad

pub plan_answers : (planner : Planner) (net lib : List ℕ) (equations : NetView) (cells : LibraryView) (fault : Fault)
    → netlist.SaysNetlist net equations → library.SaysLibrary lib cells
    → OrMemory (PlanRefuses planner equations cells) fault → Answers (design_stages planner net lib) (Some fault)
plan_answers planner net lib equations cells fault n l bad =
    past (stage.Netlist net) (stage.Cells lib ∷ stage.Plan planner net lib ∷ []) (Some fault)
    (says_no_fault net equations n)
    (past (stage.Cells lib) (stage.Plan planner net lib ∷ []) (Some fault) (says_no_cells_fault lib cells l)
    (plan_stage planner net lib equations cells fault n l bad))

-- where the plan finds nothing, nothing is due
pub design_is_well : (planner : Planner) (net lib : List ℕ) (equations : NetView) (cells : LibraryView)
    → netlist.SaysNetlist net equations → library.SaysLibrary lib cells → IsWellPlanned planner equations cells
    → IsFirst (design_stages planner net lib) None
design_is_well planner net lib equations cells n l none = (
  says_no_fault net equations n,
  (
    says_no_cells_fault lib cells l,
    (plan_finds_none planner net lib equations cells n l none, tt),
  ),
)

-- the defined plan finds the limit that it passes
pub refused_plan : (equations : NetView) (cells : LibraryView) (refused : PlanRefusal) → Refuses cells equations refused
    → OrMemory (PlanRefuses Build equations cells) (designing.plan_fault refused)
refused_plan equations cells (refusal.Slots span) bad = inl bad
refused_plan equations cells (refusal.Rows rows) bad = inl bad
refused_plan equations cells (refusal.Cells count) bad = inl bad
refused_plan equations cells refusal.Memory bad = tt

-- a search gives up for it
pub refused_search : (equations : NetView) (cells : LibraryView) (refused : PlanRefusal)
    → Refuses cells equations refused
    → OrMemory (PlanRefuses Compact equations cells) (designing.plan_fault refused)
refused_search equations cells (refusal.Slots span) bad = inr bad
refused_search equations cells (refusal.Rows rows) bad = inr bad
refused_search equations cells (refusal.Cells count) bad = inr bad
refused_search equations cells refusal.Memory bad = tt

pub refused_own : (equations : NetView) (cells : LibraryView) (refused : CellPlanRefusal)
    → RefusesCells cells equations refused → OrMemory (PlanRefuses Draw equations cells) (designing.own_fault refused)
refused_own equations cells (own.NotCells line kind) bad = bad
refused_own equations cells (own.Slots span) bad = inr bad
refused_own equations cells (own.Cells count) bad = inr bad
refused_own equations cells (own.Rows rows) bad = inr bad
refused_own equations cells (own.Elements elements) bad = inr bad
refused_own equations cells own.Memory bad = tt

pub layered_plan : (equations : NetView) (cells : LibraryView) (placed : PlacedView) → placed ≡ chip_of cells equations
    → IsWithin cells equations → IsPlannedBy Build equations cells placed
layered_plan equations cells placed is within = record { is = is; within = within }

pub ruleset plans = (refused_plan, refused_search, refused_own, layered_plan)

many_elements : (equations : NetView) (cells : LibraryView) (chip : PlacedView) (count : ℕ)
    → IsPlanned cells equations chip → count ≡ element_number chip → element_limit < count
    → HasManyElements equations cells count
many_elements equations cells chip count planned number above =
    record { within = planned.within; count_is = number ∙ ap element_number planned.is; above = above }

-- only the chip of the defined plan may have too many elements
pub too_many : (planner : Planner) (equations : NetView) (cells : LibraryView) (chip : PlacedView) (count : ℕ)
    → IsPlannedBy planner equations cells chip → count ≡ element_number chip → element_limit < count
    → PlanRefuses planner equations cells (TooLarge Elements count)
too_many Build equations cells chip count planned number above =
    inl (many_elements equations cells chip count planned number above)
too_many Compact equations cells chip count (inl planned) number above =
    inr (many_elements equations cells chip count planned number above)
too_many Compact equations cells chip count (inr found) number above =
    absurd (many_and_few (element_number chip) count found.few number above)
too_many Draw equations cells chip count drawn number above =
    absurd (many_and_few (element_number chip) count drawn.few number above)

-- what is drawn has few cells and wires
pub few_cells : (chip : PlacedView) → element_number chip ≤ element_limit → cells_in chip.net.rows < 2 ^ 63
few_cells chip small = omega arith

pub few_wires : (chip : PlacedView) → element_number chip ≤ element_limit → wires_in chip.net.rows < 2 ^ 63
few_wires chip small = omega arith

-- the plan of what was planned
pub plan_by : (planner : Planner) (equations : NetView) (cells : LibraryView) (placed : PlacedView)
    → IsPlannedBy planner equations cells placed → IsPlanBy planner equations cells placed
plan_by Build equations cells placed planned = (planned.is, planned.within)
plan_by Compact equations cells placed (inl planned) =
    λ within. subst (λ p. IsNoLarger p (chip_of cells equations)) (sym planned.is)
    (record { cells = le_refl _; junctions = le_refl _ })
plan_by Compact equations cells placed (inr found) = found.no_larger
plan_by Draw equations cells placed drawn = drawn

pub drawn : (cells : LibraryView) (placed : PlacedView) (chip : Chip) → chip.layout ≡ draw placed cells
    → AreCountsOf placed chip.counts → IsDrawn placed cells chip
unfolding stream_of
drawn cells placed chip is counts = record { stream = ap bytes_of is; counts = counts }

pub chip_is_of : (planner : Planner) (equations : NetView) (cells : LibraryView) (placed : PlacedView) (chip : Chip)
    → IsChipFor equations cells placed → IsPlannedBy planner equations cells placed → IsDrawn placed cells chip
    → IsChipOf planner equations cells chip
chip_is_of planner equations cells placed chip of_net planned is = record {
  placed = placed;
  of_net = of_net;
  planned = plan_by planner equations cells placed planned;
  drawn = is;
}

keeps_limits : (equations : NetView) (cells : LibraryView) (placed : PlacedView)
    → IsPlanned cells equations placed → element_number placed ≤ element_limit → KeepsLimits equations cells
keeps_limits equations cells placed planned small =
    record { within = planned.within; small = subst (λ p. element_number p ≤ element_limit) planned.is small }

-- a chip within the limits was planned well
pub planned_well : (planner : Planner) (equations : NetView) (cells : LibraryView) (placed : PlacedView)
    → (KeepsLimits equations cells → (fault : Fault) → ¬ IsPlanFault equations cells fault)
    → IsPlannedBy planner equations cells placed → element_number placed ≤ element_limit
    → IsWellPlanned planner equations cells
planned_well Build equations cells placed passes planned small =
    passes (keeps_limits equations cells placed planned small)
planned_well Compact equations cells placed passes planned small = λ fault bad. bad
planned_well Draw equations cells placed passes drawn small =
    rows_no_fault equations cells drawn.rows drawn.of_net

-- and so is a plan that keeps them
pub planner_well : (planner : Planner) (equations : NetView) (cells : LibraryView)
    → (KeepsLimits equations cells → (fault : Fault) → ¬ IsPlanFault equations cells fault)
    → KeepsPlan planner equations cells → IsWellPlanned planner equations cells
planner_well Build equations cells passes keeps = passes keeps
planner_well Compact equations cells passes keeps = λ fault bad. bad
planner_well Draw equations cells passes keeps = chip_no_fault equations cells keeps

-- a placed net has some row
pub some_row : (placed : PlacedView) (counts : ChipCounts) → IsPlaced placed → counts.rows ≡ length placed.net.rows
    → counts.cells ≡ cells_in placed.net.rows → counts.wires ≡ wires_in placed.net.rows → AreCountsOf placed counts
some_row placed counts keeps rows cells wires =
    let two = keeps.net_keeps.two_rows in
    record { rows = rows; cells = cells; wires = wires; some = omega (arith, two, rows) }

pub ruleset limits = (too_many, few_cells, few_wires)

pub chip_is_made : (planner : Planner) (net lib : List ℕ) (equations : NetView) (cells : LibraryView) (chip : Chip)
    → netlist.SaysNetlist net equations → library.SaysLibrary lib cells → IsChipOf planner equations cells chip
    → MakesChip planner net lib chip
chip_is_made planner net lib equations cells chip n l made = record {
  equations = equations;
  cells = cells;
  says = says_design net lib equations cells n l;
  made = made;
}

pub ruleset designs = (
  netlist_fault,
  cells_fault,
  plan_fault,
  netlist_answers,
  cells_answer,
  plan_answers,
  design_is_well,
  chip_is_made,
)
