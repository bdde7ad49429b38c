-- What is known while the cells are laid, one definition after another.
use Rattle.std.specs.Prelude.{◌≡◌, ℕ, suc, ◌+◌, ◌-◌, ◌<◌, cond, nat_lt, false, map, List, [], ◌∷◌, length, take}
use Rattle.std.specs.Prelude.{Option, Some, None, slice_get, slice_index}
use Rattle.circuit.specs.declared.cell_kind.CellKind.TheVariants as kinds
use Rattle.circuit.specs.declared.gate.Gate.{Gate}
use Rattle.circuit.specs.declared.gate.Gate.TheVariants as gates
use Rattle.rowed.specs.declared.source.Source.{Source}
use Rattle.rowed.specs.declared.row_cell.RowCell.{RowCell}
use Rattle.rowed.specs.MadeCells.{source, cell, bare_cell, fed_cell}
use Rattle.cell_netlist.specs.Tables.{AreCounts, IsTableOf}
use Rattle.cell_netlist.specs.Uses.{CellView, named, is_name, with_gates}
use Rattle.cell_netlist.specs.Levels.{shown_by}
use Rattle.cell_rows.specs.declared.places.Plan.{Plan}
use Rattle.cell_rows.specs.declared.tabled_cells.TabledCells.{TabledCells}
use Rattle.cell_rows.specs.Laws.{AreCells}
use Rattle.cell_rows.specs.Members.{passing_below, listed, stands_in, place_of}
use Rattle.cell_rows.specs.CellRows.{kind_giving, row_cell}

-- how many of the first n definitions stand in each row
abbrev pub counts_to : CellView → List ℕ → ℕ → ℕ → List ℕ
counts_to d levels last n = listed (λ r. length (passing_below (stands_in d levels r) n)) (suc last)

-- the rows with the cells of the first n definitions
abbrev pub rows_to : CellView → List ℕ → ℕ → ℕ → List (List RowCell)
rows_to d levels last n = listed (λ r. map (row_cell d levels) (passing_below (stands_in d levels r) n)) (suc last)

-- the list tells the places of the first n definitions
pub record ArePlaces (d : CellView) (levels places : List ℕ) (n : ℕ) : Type 0 where
  pub long : length places ≡ n
  pub each : (j : ℕ) → j < n → is_name d (d.net.inputs + j) ≡ false → slice_index places j ≡ place_of d levels j

-- the list tells which of the first n outputs shows each signal
pub record AreShown (d : CellView) (shown : List (Option ℕ)) (n : ℕ) : Type 0 where
  pub long : length shown ≡ d.net.inputs + length d.net.defs
  pub some : (s k : ℕ) → slice_get shown s ≡ Some (Some k)
      → (k < n) × (shown_by d (slice_index d.net.outputs k) ≡ s)
  pub none : (s k : ℕ) → slice_get shown s ≡ Some None → k < n → shown_by d (slice_index d.net.outputs k) ≡ s → ⊥

-- the lists tell the places of all cells, and which output shows each signal
pub record IsPlan (d : CellView) (levels places : List ℕ) (shown : List (Option ℕ)) : Type 0 where
  pub places_are : ArePlaces d levels places (length d.net.defs)
  pub shown_are : AreShown d shown (length d.net.outputs)

-- the source that lists of places and of uses tell for a signal
abbrev pub source_in : ℕ → List ℕ → List ℕ → ℕ → Source
source_in inputs places used s = source (slice_index places (s - inputs)) (slice_index used s)

-- the cell of a gate with so many uses, where each signal that it names has such a source
abbrev pub cell_with : ℕ → (ℕ → Source) → ℕ → Gate → RowCell
cell_with inputs from uses (gates.Input i) = bare_cell kinds.Buffer
cell_with inputs from uses gates.Zero = bare_cell kinds.Zero
cell_with inputs from uses gates.One = bare_cell kinds.One
cell_with inputs from uses (gates.Buf x) =
    cond (nat_lt x inputs) (record (bare_cell (kind_giving uses)) { input = Some x })
    (fed_cell (kind_giving uses) (from x))
cell_with inputs from uses (gates.Inv x) = fed_cell kinds.Inverter (from x)
cell_with inputs from uses (gates.Maj x y z) = cell kinds.Majority (from x ∷ from y ∷ from z ∷ [])

-- a netlist beside what is known of it, as specifications see it
abbrev pub view_of : TabledCells → CellView
view_of cells = with_gates cells.net.now cells.table.now.gates.items cells.three

-- its table is that of the netlist
abbrev pub IsTabled : TabledCells → Type 0
IsTabled cells =
    IsTableOf cells.net.now cells.table.now.gates.items cells.table.now.used.items cells.table.now.shown.items

-- its levels are those of the cells
abbrev pub AreLevelled : TabledCells → Type 0
AreLevelled cells = AreCells (view_of cells) cells.levels.now.levels cells.levels.now.last

-- the plan is that of its rows
abbrev pub IsPlanOf : TabledCells → Plan → Type 0
IsPlanOf cells plan = IsPlan (view_of cells) cells.levels.now.levels plan.places.items plan.shown.items

-- the list tells how often definitions before definition j name each of its signals
abbrev pub AreUsedBefore : TabledCells → List ℕ → ℕ → Type 0
AreUsedBefore cells used j =
    AreCounts used (cells.net.now.inputs + length cells.net.now.defs) (named (take j cells.net.now.defs))

-- how many of its first n definitions stand in each row, and the rows with their cells
abbrev pub counts_of : TabledCells → ℕ → List ℕ
counts_of cells n = counts_to (view_of cells) cells.levels.now.levels cells.levels.now.last n

abbrev pub laid_to : TabledCells → ℕ → List (List RowCell)
laid_to cells n = rows_to (view_of cells) cells.levels.now.levels cells.levels.now.last n
