-- Few cells have few junctions.
use Rattle.std.proofs.Common.{◌*◌, ◌<◌, ◌≤◌, ◌^◌, List, [], ◌∷◌, length, arith}
use Rattle.circuit.specs.declared.cell_kind.CellKind.{CellKind}
use Rattle.circuit.specs.declared.cell_kind.CellKind.TheVariants.{Buffer}
use Rattle.rowed.specs.declared.row_cell.RowCell.{RowCell}
use Rattle.rowed.specs.PlacedNets.{PlacedView}
use Rattle.rowed.specs.Counts.{cells_in}
use Rattle.rowed.specs.Limits.{cell_limit}
use Rattle.plan_compact.specs.Junctions.{kind_junctions, row_junctions, junctions_in}
use Rattle.plan_compact.specs.Compact.{IsNoLarger}

kind_most : (kind : CellKind) → kind_junctions kind ≤ 6
kind_most Buffer = omega arith
kind_most k = omega arith

row_most : (cells : List RowCell) → row_junctions cells ≤ 6 * length cells
row_most [] = omega arith
row_most (cell ∷ cells) = let k = kind_most cell.kind in let r = row_most cells in omega arith

rows_most : (rows : List (List RowCell)) → junctions_in rows ≤ 6 * cells_in rows
rows_most [] = omega arith
rows_most (row ∷ rows) = let r = row_most row in let k = rows_most rows in omega arith

pub few_junctions : (rows : List (List RowCell)) → cells_in rows ≤ cell_limit → junctions_in rows < 2 ^ 63
few_junctions rows few = let k = rows_most rows in omega arith

pub few_counted : (rows : List (List RowCell)) → cells_in rows ≤ cell_limit → cells_in rows < 2 ^ 63
few_counted rows few = omega arith

pub no_larger : (chip other : PlacedView) → cells_in chip.net.rows ≤ cells_in other.net.rows
    → junctions_in chip.net.rows ≤ junctions_in other.net.rows → IsNoLarger chip other
no_larger chip other cells junctions = record { cells = cells; junctions = junctions }

pub ruleset few = (few_junctions, few_counted, no_larger)
