-- The plan of a netlist's own cells finds one fault or none, and gives up only where it finds none.
use Rattle.std.proofs.Common.{ℕ, ◌≡◌}
use Rattle.blif_read.specs.Parts.{NetView}
use Rattle.rowed.specs.RowNets.{RowView}
use Rattle.cell_library.specs.Library.{LibraryView}
use Rattle.cell_netlist.proofs.OneFault.{first_fault_one, cells_no_fault}
use Rattle.plan_build.specs.Plans.{three_of}
use Rattle.plan_draw.specs.CellPlans.{AreCellRows}
use Rattle.plan_draw.specs.declared.refusal.CellPlanRefusal.TheVariants as own
use Rattle.plan_draw.proofs.OneNet.{cells_of}
use Rattle.plan_draw.proofs.OneChip.{chip_or_refusal}
use Rattle.aqfp_top.specs.Designs.{HasTooMuchOfOwn, HasCellChip, IsOwnFault}
use Rattle.aqfp_top.specs.declared.fault.Large.{Large}
use Rattle.aqfp_top.specs.declared.fault.Large.TheVariants.{Slots, Rows, Cells, Elements, Shapes, Functions, Design}
use Rattle.aqfp_top.specs.declared.fault.Fault.{Fault}
use Rattle.aqfp_top.specs.declared.fault.Fault.TheVariants.{NotCells}

-- a netlist with rows of its own cells has no fault
pub rows_no_fault : (n : NetView) (l : LibraryView) (rows : RowView) → AreCellRows l n rows → (fault : Fault)
    → IsOwnFault n l fault → ⊥
rows_no_fault n l rows of_net (NotCells line kind) bad =
    cells_no_fault n (three_of l) of_net.levels of_net.last line kind (cells_of of_net.rows_are) bad
rows_no_fault n l rows of_net _ bad = absurd bad

-- nor has one whose chip has too much of something
pub large_no_fault : (n : NetView) (l : LibraryView) (what : Large) (count : ℕ) → HasTooMuchOfOwn n l what count
    → (fault : Fault) → IsOwnFault n l fault → ⊥
large_no_fault n l Slots count large = rows_no_fault n l large.rows large.of_net
large_no_fault n l Rows count large = rows_no_fault n l large.rows large.of_net
large_no_fault n l Cells count large = rows_no_fault n l large.rows large.of_net
large_no_fault n l Elements count large = rows_no_fault n l large.rows large.of_net
large_no_fault n l Shapes count large = absurd large
large_no_fault n l Functions count large = absurd large
large_no_fault n l Design count large = absurd large

-- nor has one whose chip keeps all limits, which passes none of them
pub chip_no_fault : (n : NetView) (l : LibraryView) → HasCellChip n l → (fault : Fault) → IsOwnFault n l fault → ⊥
chip_no_fault n l keeps = rows_no_fault n l keeps.of_cells.rows keeps.of_cells.of_net

pub chip_not_large : (n : NetView) (l : LibraryView) (what : Large) (count : ℕ) → HasCellChip n l
    → HasTooMuchOfOwn n l what count → ⊥
chip_not_large n l Slots count keeps large =
    chip_or_refusal l n (own.Slots count) keeps.chip (λ e. cc) large keeps.of_cells
chip_not_large n l Rows count keeps large =
    chip_or_refusal l n (own.Rows count) keeps.chip (λ e. cc) large keeps.of_cells
chip_not_large n l Cells count keeps large =
    chip_or_refusal l n (own.Cells count) keeps.chip (λ e. cc) large keeps.of_cells
chip_not_large n l Elements count keeps large =
    chip_or_refusal l n (own.Elements count) keeps.chip (λ e. cc) large keeps.of_cells
chip_not_large n l Shapes count keeps large = large
chip_not_large n l Functions count keeps large = large
chip_not_large n l Design count keeps large = large

-- two faults of one netlist are the same
pub one_own_fault : (n : NetView) (l : LibraryView) (f g : Fault) → IsOwnFault n l f → IsOwnFault n l g → f ≡ g
one_own_fault n l (NotCells a j) (NotCells b k) p q =
    let same = first_fault_one n (three_of l) a b j k p q in λ i. NotCells (same.0 i) (same.1 i)
one_own_fault n l (NotCells a j) _ p q = absurd q
one_own_fault n l _ g p q = absurd p
