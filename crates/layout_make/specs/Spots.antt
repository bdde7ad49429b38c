-- Cells of a placed net with their slots, their pins, and the ports that they show.
use Rattle.std.specs.Prelude.{◌≡◌, ℕ, ◌<◌, ◌==◌, Bool, true, false, List, [], ◌∷◌, Option, Some, None}
use Rattle.std.specs.Prelude.{slice_get, slice_index_or}
use Rattle.circuit.specs.CellKinds.{inputs_of, outputs_of}
use Rattle.circuit.specs.declared.cell_kind.CellKind.TheVariants.{Buffer}
use Rattle.rowed.specs.declared.row_cell.RowCell.{RowCell}
use Rattle.rowed.specs.RowNets.{row_at}
use Rattle.rowed.specs.PlacedNets.{PlacedView}
use Rattle.cell_library.specs.Library.{LibraryView, IsGiven}
pub use Rattle.layout_make.specs.declared.spots.Spot.{Spot}

-- cells with their slots
abbrev pub spots_of : List RowCell → List ℕ → List Spot
spots_of [] slots = []
spots_of (c ∷ cells) [] = []
spots_of (c ∷ cells) (s ∷ slots) = record { cell = c; slot = s } ∷ spots_of cells slots

-- the cells of row r
abbrev pub spots : PlacedView → ℕ → List Spot
spots p r = spots_of (row_at p.net.rows r) (slice_index_or p.slots r [])

-- input pin i of cell n of a row
pub record IsInput (p : PlacedView) (r n i : ℕ) (x : Spot) : Type 0 where
  pub at : slice_get (spots p r) n ≡ Some x
  pub below : i < inputs_of x.cell.kind

-- output pin o of cell n of a row
pub record IsOutput (p : PlacedView) (r n o : ℕ) (y : Spot) : Type 0 where
  pub at : slice_get (spots p r) n ≡ Some y
  pub below : o < outputs_of y.cell.kind

-- the library gives the kinds of these cells
abbrev pub AreGiven : LibraryView → List Spot → Type 0
AreGiven l xs = (n : ℕ) (x : Spot) → slice_get xs n ≡ Some x → IsGiven l x.cell.kind

-- the port has the number
abbrev pub has_port : Option ℕ → ℕ → Bool
has_port None n = false
has_port (Some m) n = m == n

-- cell k of row r, a buffer, has port n by this choice of ports
pub record PortAt (p : PlacedView) (port : RowCell → Option ℕ) (r n k : ℕ) : Type 0 where
  pub spot : Spot
  pub at : slice_get (spots p r) k ≡ Some spot
  pub has : has_port (port spot.cell) n ≡ true
  pub buffer : spot.cell.kind ≡ Buffer

-- the input that a cell shows
abbrev pub input_port : RowCell → Option ℕ
input_port c = c.input

-- the output that a cell shows
abbrev pub output_port : RowCell → Option ℕ
output_port c = c.output
