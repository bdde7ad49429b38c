-- Tables with an entry for each row, and the lengths of all nets.
use Rattle.std.specs.Prelude.{◌≡◌, ℕ, ◌<◌, List, length, slice_index, Option, count_by, map, filter}
use Rattle.geom.specs.declared.shapes.Shape.{Shape}
use Rattle.geom.specs.declared.shapes.Flat.{Flat}
use Rattle.layout_rules.specs.LengthRule.{net_length}
use Rattle.circuit_extracted.specs.Circuits.{CircuitView}
use Rattle.text_report.specs.declared.tables.RowTable.{RowTable}
use Rattle.text_report.specs.Kinds.{cells_in}
use Rattle.text_report.specs.Skews.{row_skew}
use Rattle.text_report.specs.Wires.{wires_from, longest_of, greatest}
use Rattle.text_report.specs.Code.Sources.{is_row}

-- for each row how many of the items are of that row
abbrev pub AreCounts : {X : Type 0} → (X → Option ℕ) → List X → List ℕ → Type 0
AreCounts row_of items counts = (row : ℕ) → row < length counts
    → slice_index counts row ≡ count_by (λ item. is_row row (row_of item)) items

-- for each row the greatest number of the items that are of that row
abbrev pub AreGreatest : {X : Type 0} → (X → Option ℕ) → (X → ℕ) → List X → List ℕ → Type 0
AreGreatest row_of number items most = (row : ℕ) → row < length most
    → slice_index most row ≡ greatest (map number (filter (λ item. is_row row (row_of item)) items))

-- the list has this entry for each of the rows
pub record HasEntries (rows : ℕ) (entry : ℕ → ℕ) (entries : List ℕ) : Type 0 where
  pub many : length entries ≡ rows
  pub each : (row : ℕ) → row < rows → slice_index entries row ≡ entry row

-- for each row how many cells stand in it, how many wires leave it, and the greatest length and the greatest skew of
-- these
pub record IsRowTable (flat : Flat) (circuit : CircuitView) (near far : ℕ → ℕ) (table : RowTable) : Type 0 where
  pub cells_are : HasEntries circuit.rows (λ row. cells_in row circuit.cells) table.cells.items
  pub wires_are : HasEntries circuit.rows (λ row. length (wires_from flat circuit row)) table.wires.items
  pub longest_are : HasEntries circuit.rows (λ row. longest_of flat circuit (wires_from flat circuit row))
      table.longest.items
  pub skews_are : HasEntries circuit.rows (row_skew circuit near far) table.skews.items

-- for each net the length of its metal in nanometres
pub record AreNetLengths (shapes : List Shape) (nets lengths : List ℕ) : Type 0 where
  pub long : length lengths ≡ length shapes
  pub at : (net : ℕ) → net < length lengths → slice_index lengths net ≡ net_length shapes nets net
