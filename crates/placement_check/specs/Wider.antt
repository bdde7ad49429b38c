-- Nets that are wider than another: the cells of that net, each in the row that its row has become, and buffers that
-- were added, so that each output leads through such buffers alone to the pin that it feeds. A constant may stand in
-- any row, as directly below its user. Marks tell what each cell of the wider net is, and places where each cell of the
-- net stands; a test computes, row by row and cell by cell, whether they fit.
use Rattle.std.specs.Prelude.{◌≡◌, ℕ, ◌+◌, ◌-◌, ◌==◌, Bool, true, false, ◌&&◌, ◌||◌, not, List, [], ◌∷◌}
use Rattle.std.specs.Prelude.{Option, Some, None, is_some, slice_get, slice_index_or}
use Rattle.circuit.specs.CellKinds.{number_of}
use Rattle.circuit.specs.declared.cell_kind.CellKind.{CellKind}
use Rattle.circuit.specs.declared.cell_kind.CellKind.TheVariants.{Buffer, Inverter, Zero, One, Split2, Split3, Majority}
use Rattle.rowed.specs.declared.source.Source.{Source}
use Rattle.rowed.specs.declared.row_cell.RowCell.{RowCell}
use Rattle.rowed.specs.RowNets.{RowView, IsRowNet}
use Rattle.rowed.specs.Slots.{EachSeated}
use Rattle.placement_check.specs.declared.marks.Mark.{Mark}
use Rattle.placement_check.specs.declared.marks.Place.{Place}

-- the number of the output that a buffer carries, or the cell's own
abbrev pub given_by : Option ℕ → ℕ → ℕ
given_by None own = own
given_by (Some carried) own = carried

-- an output of a cell with this mark leads on the output of a cell of this row of the net
abbrev pub leads : ℕ → Source → Mark → ℕ → Bool
leads row target mark own =
    (mark.row == row) && (mark.cell == target.cell) && (given_by mark.carried own == target.output)

abbrev pub leads_at : ℕ → Source → Option Mark → ℕ → Bool
leads_at row target None own = false
leads_at row target (Some mark) own = leads row target mark own

-- a pin over a row with these marks is led to what feeds it in the net, an output of a cell of this row; or is not fed
abbrev pub is_pin : ℕ → List Mark → Option Source → Option Source → Bool
is_pin row below None None = true
is_pin row below None (Some target) = false
is_pin row below (Some source) None = false
is_pin row below (Some source) (Some target) = leads_at row target (slice_get below source.cell) source.output

-- both are one number, or none
abbrev pub is_same : Option ℕ → Option ℕ → Bool
is_same None None = true
is_same None (Some other) = false
is_same (Some one) None = false
is_same (Some one) (Some other) = one == other

-- a cell over a row with these marks is one of the net, whose sources are of this row of the net
abbrev pub is_cell : ℕ → List Mark → RowCell → RowCell → Bool
is_cell row below cell own =
    (number_of cell.kind == number_of own.kind) && is_same cell.input own.input && is_same cell.output own.output
    && is_pin row below cell.source0 own.source0 && is_pin row below cell.source1 own.source1
    && is_pin row below cell.source2 own.source2

abbrev pub is_constant : CellKind → Bool
is_constant Buffer = false
is_constant Inverter = false
is_constant Zero = true
is_constant One = true
is_constant Split2 = false
is_constant Split3 = false
is_constant Majority = false

-- this is the row that a row of the net has become
abbrev pub is_row : ℕ → Option ℕ → Bool
is_row d None = false
is_row d (Some became) = became == d

-- a cell in row d over a row with these marks is that of the net, if there is one, and stands in the row that its own
-- row r has become, unless it is a constant
abbrev pub is_kept : List ℕ → ℕ → List Mark → RowCell → ℕ → Option RowCell → Bool
is_kept became d below cell r None = false
is_kept became d below cell r (Some own) =
    is_cell (r - 1) below cell own && (is_constant cell.kind || is_row d (slice_get became r))

-- a cell over a row with these marks is a buffer that was added, and carries the output of a cell of row r of the net
abbrev pub is_added : List Mark → RowCell → ℕ → Source → Bool
is_added below cell r target =
    (number_of cell.kind == number_of Buffer) && is_same cell.input None && is_same cell.output None
    && is_pin r below cell.source0 (Some target)

-- the item of this number in row r, if there is one
abbrev pub item_at : {A : Type 0} → List (List A) → ℕ → ℕ → Option A
item_at rows r c = slice_get (slice_index_or rows r []) c

-- a cell in row d is what its mark tells
abbrev pub is_marked : List (List RowCell) → List ℕ → ℕ → List Mark → RowCell → ℕ → ℕ → Option ℕ → Bool
is_marked net became d below cell r c None = is_kept became d below cell r (item_at net r c)
is_marked net became d below cell r c (Some output) =
    is_added below cell r (record { cell = c; output = output })

-- the place is that of cell c of row r
abbrev pub is_there : ℕ → ℕ → Option Place → Bool
is_there r c None = false
is_there r c (Some place) = (place.row == r) && (place.cell == c)

-- cell c of row d is an added buffer, or stands in the place of a cell of the net
abbrev pub has_place : List (List Place) → ℕ → ℕ → Mark → Bool
has_place places d c mark = is_some mark.carried || is_there d c (item_at places mark.row mark.cell)

-- a cell is what its mark tells, and no other cell of the wider net is that
unfoldable pub fits_mark : List (List RowCell) → List ℕ → List (List Place) → ℕ → List Mark → ℕ → RowCell → Mark → Bool
fits_mark net became places d below c cell mark =
    is_marked net became d below cell mark.row mark.cell mark.carried && has_place places d c mark

-- so is each cell of row d, from cell c on
abbrev pub row_marked : List (List RowCell) → List ℕ → List (List Place) → ℕ → List Mark → ℕ → List RowCell
    → List Mark → Bool
row_marked net became places d below c [] [] = true
row_marked net became places d below c [] (mark ∷ marks) = false
row_marked net became places d below c (cell ∷ cells) [] = false
row_marked net became places d below c (cell ∷ cells) (mark ∷ marks) =
    fits_mark net became places d below c cell mark && row_marked net became places d below (c + 1) cells marks

-- and of the rows from row d on, which stand over a row with the marks `below`
abbrev pub rows_marked : List (List RowCell) → List ℕ → List (List Place) → ℕ → List Mark → List (List RowCell)
    → List (List Mark) → Bool
rows_marked net became places d below [] [] = true
rows_marked net became places d below [] (marks ∷ more) = false
rows_marked net became places d below (row ∷ rows) [] = false
rows_marked net became places d below (row ∷ rows) (marks ∷ more) =
    row_marked net became places d below 0 row marks && rows_marked net became places (d + 1) marks rows more

-- this is the mark of cell c of row r itself
abbrev pub is_mark_of : ℕ → ℕ → Option Mark → Bool
is_mark_of r c None = false
is_mark_of r c (Some mark) = (mark.row == r) && (mark.cell == c) && not (is_some mark.carried)

-- at this place stands cell c of row r
abbrev pub stands_at : List (List Mark) → ℕ → ℕ → Option Place → Bool
stands_at marks r c None = false
stands_at marks r c (Some place) = is_mark_of r c (item_at marks place.row place.cell)

-- cell c of row r stands in its place
unfoldable pub is_found : List (List Place) → List (List Mark) → ℕ → ℕ → Bool
is_found places marks r c = stands_at marks r c (item_at places r c)

-- so does each cell of row r, from cell c on
abbrev pub row_stands : List (List Place) → List (List Mark) → ℕ → ℕ → List RowCell → Bool
row_stands places marks r c [] = true
row_stands places marks r c (cell ∷ cells) =
    is_found places marks r c && row_stands places marks r (c + 1) cells

-- and of the rows from row r on
abbrev pub rows_stand : List (List Place) → List (List Mark) → ℕ → List (List RowCell) → Bool
rows_stand places marks r [] = true
rows_stand places marks r (row ∷ rows) =
    row_stands places marks r 0 row && rows_stand places marks (r + 1) rows

-- the rows are those of the net and added buffers, as these tell: each cell of the net stands in one place
abbrev pub is_widened : List (List RowCell) → List (List RowCell) → List ℕ → List (List Place) → List (List Mark)
    → Bool
is_widened net rows became places marks =
    rows_marked net became places 0 [] rows marks && rows_stand places marks 0 net

-- so one net is wider than another, with the same inputs and outputs
pub record IsWider (net wide : RowView) : Type 0 where
  pub became : List ℕ
  pub places : List (List Place)
  pub marks : List (List Mark)
  pub same_inputs : wide.inputs ≡ net.inputs
  pub same_outputs : wide.outputs ≡ net.outputs
  pub widened : is_widened net.rows wide.rows became places marks ≡ true

-- rows are those of a wider net, and seated
pub record IsWide (net : RowView) (rows : List (List RowCell)) (slots : List (List ℕ)) (became : List ℕ)
    (places : List (List Place)) (marks : List (List Mark)) : Type 0 where
  pub keeps : IsRowNet (record { inputs = net.inputs; outputs = net.outputs; rows = rows })
  pub seated : EachSeated rows slots
  pub widened : is_widened net.rows rows became places marks ≡ true
