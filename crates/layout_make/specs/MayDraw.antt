-- What is asked of a placed net and a library so that the one is drawn with the other.
use Rattle.std.specs.Prelude.{ℕ, ◌*◌, ◌+◌, ◌-◌, ◌<◌, ◌≤◌, ◌^◌, length, List}
use Rattle.std.specs.List.{AllByRecursion}
use Rattle.rowed.specs.declared.row_cell.RowCell.{RowCell}
use Rattle.rowed.specs.PlacedNets.{PlacedView, IsPlaced, placed_rows}
use Rattle.rowed.specs.Short.{AreShort}
use Rattle.rowed.specs.Extent.{widest}
use Rattle.rowed.specs.Limits.{KeepsWidth, height_limit, width_limit}
use Rattle.cell_library.specs.Library.{LibraryView, IsGiven}
use Rattle.cell_library.specs.Laws.{IsLibrary}
use Rattle.cell_library.specs.Reach.{reach_of, slot_width_of}

-- how high rows may come to stand whose channels are all full
abbrev pub most_height : LibraryView → ℕ → ℕ
most_height l rows = rows * l.height + (rows - 1) * ((l.capacity + 1) * l.pitch)

-- the library gives the kinds of all cells
abbrev pub GivesKinds : LibraryView → List (List RowCell) → Type 0
GivesKinds l rows =
    AllByRecursion (λ (row : List RowCell). AllByRecursion (λ (cell : RowCell). IsGiven l cell.kind) row) rows

-- each wire moves fewer slots than the library's reach, and width and height are within their limits
pub record MayDraw (p : PlacedView) (l : LibraryView) : Type 0 where
  pub placed : IsPlaced p
  pub library : IsLibrary l
  pub given : GivesKinds l p.net.rows
  pub short : AreShort (reach_of l) (placed_rows p)
  pub narrow : KeepsWidth (widest (placed_rows p)) (slot_width_of l)
  pub low : most_height l (length p.net.rows) ≤ height_limit
  -- the bar that delays the odd rows is no wider than a row may be
  pub lag : p.lag ≤ width_limit
  -- so that the number of each label is one of 32 bits
  pub few_inputs : p.net.inputs < 2 ^ 32
  pub few_outputs : p.net.outputs < 2 ^ 32
