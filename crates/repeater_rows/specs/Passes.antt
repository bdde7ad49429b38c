-- What the pass of repeaters gives, and which nets it refuses.
use Rattle.std.specs.Prelude.{◌≡◌, ℕ, ◌+◌, ◌-◌, ◌*◌, ◌<◌, ◌≤◌, List, [], ◌∷◌, ◌++◌, length, Option, Some, None, cond}
use Rattle.std.specs.Prelude.{nat_le}
use Rattle.circuit.specs.SameAnswers.{SameAnswers}
use Rattle.rowed.specs.declared.row_cell.RowCell.{RowCell}
use Rattle.rowed.specs.RowNets.{IsAnswer}
use Rattle.rowed.specs.PlacedNets.{PlacedRow, PlacedView, IsPlaced, placed_rows}
use Rattle.rowed.specs.Counts.{cells_in}
use Rattle.rowed.specs.Limits.{cell_limit, height_limit}
use Rattle.repeater_rows.specs.Repeaters.{repeated, repeated_rows}
use Rattle.repeater_rows.specs.declared.pass.RepeatRefusal.{RepeatRefusal}
use Rattle.repeater_rows.specs.declared.pass.RepeatRefusal.TheVariants.{TooManyCells, TooTall, Memory}

-- the cells up to the end of the first row that passes the limit, so many standing in the rows before
abbrev pub cells_past : ℕ → List PlacedRow → Option ℕ
cells_past before [] = None
cells_past before (row ∷ rows) =
    let now = before + length row.cells in
    cond (nat_le now cell_limit) (cells_past now rows) (Some now)

-- one of these rows is the first that passes the limit, and so many cells stand up to its end
pub record IsFirstPast (rows : List (List RowCell)) (cells : ℕ) : Type 0 where
  pub below : List (List RowCell)
  pub row : List RowCell
  pub above : List (List RowCell)
  pub all : rows ≡ below ++ (row ∷ above)
  pub within : cells_in below ≤ cell_limit
  pub count : cells ≡ cells_in below + length row
  pub past : cell_limit < cells

-- the height of rows that are each so high, and of channels that are each at most so high
abbrev pub height_of : ℕ → ℕ → ℕ → ℕ
height_of height channel rows = rows * height + (rows - 1) * channel

-- this is the plan of the net's repeaters, within both limits; it answers every word as the net does
pub record AreRepeated (p : PlacedView) (reach height channel : ℕ) (out : PlacedView) : Type 0 where
  pub net_keeps : IsPlaced p
  pub out_keeps : IsPlaced out
  pub is_plan : out ≡ repeated p reach
  pub few_cells : cells_past 0 (placed_rows out) ≡ None
  pub not_tall : height_of height channel (length out.net.rows) ≤ height_limit
  pub same : SameAnswers p.net.inputs out.net.inputs p.net.outputs out.net.outputs (IsAnswer p.net) (IsAnswer out.net)

-- the plan has too many cells, or else is too tall, and the refusal has the number
abbrev pub IsTooLarge : PlacedView → ℕ → ℕ → ℕ → RepeatRefusal → Type 0
IsTooLarge p reach height channel (TooManyCells cells) = cells_past 0 (repeated_rows reach (placed_rows p)) ≡ Some cells
IsTooLarge p reach height channel (TooTall rows) =
    (cells_past 0 (repeated_rows reach (placed_rows p)) ≡ None)
    × (height_limit < height_of height channel rows)
    × (rows ≡ length (repeated_rows reach (placed_rows p)))
IsTooLarge p reach height channel Memory = ⊥
