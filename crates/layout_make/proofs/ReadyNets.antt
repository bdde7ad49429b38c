-- What the drawing uses of a placed net.
use Rattle.std.specs.Prelude.{◌≡◌, ℕ, suc, ◌+◌, ◌<◌, ◌≤◌, true, List, [], ◌∷◌, length, Option, Some, slice_get}
use Rattle.circuit.specs.CellKinds.{inputs_of, slots_of}
use Rattle.circuit.specs.declared.cell_kind.CellKind.TheVariants.{Buffer}
use Rattle.rowed.specs.declared.source.Source.{Source}
use Rattle.rowed.specs.declared.row_cell.RowCell.{RowCell}
use Rattle.rowed.specs.RowCells.{source_at}
use Rattle.rowed.specs.PlacedNets.{PlacedView}
use Rattle.rowed.specs.declared.wire.Wire.{Wire}
use Rattle.channel_route.specs.Crossing.{EndsApart}
use Rattle.channel_route.specs.Tracks.{AreTracks, route_of, tracks_used, column_of}
use Rattle.cell_library.specs.Library.{LibraryView}
use Rattle.layout_make.specs.Spots.{Spot, spots, AreGiven, IsInput, IsOutput, PortAt, has_port}

-- the cells stand from slot n on, one after the other
abbrev pub Packed : ℕ → List Spot → Type 0
Packed n [] = Unit {0}
Packed n (x ∷ xs) = (n ≤ x.slot) × Packed (x.slot + slots_of x.cell.kind) xs

-- the output that an input pin takes
pub record TakesFrom (p : PlacedView) (r i : ℕ) (x : Spot) : Type 0 where
  pub source : Source
  pub from : Spot
  pub source_is : source_at x.cell i ≡ Some source
  pub is_output : IsOutput p r source.cell source.output from

-- what the drawing uses of a placed net
pub record IsReady (p : PlacedView) (l : LibraryView) : Type 0 where
  pub rows_some : 2 ≤ length p.net.rows
  pub packed : (r : ℕ) → Packed 0 (spots p r)
  pub given : (r : ℕ) → AreGiven l (spots p r)
  pub some_cell : (r : ℕ) → r < length p.net.rows → (x : Spot) × (slice_get (spots p r) 0 ≡ Some x)
  pub pins : (r n i : ℕ) (x : Spot) (s : Source) → slice_get (spots p r) n ≡ Some x → source_at x.cell i ≡ Some s
      → i < inputs_of x.cell.kind
  pub sourced : (r n i : ℕ) (x : Spot) → IsInput p (suc r) n i x → TakesFrom p r i x
  pub routes : (ws : List Wire) → EndsApart ws → AreTracks ws (route_of ws) (tracks_used ws) (column_of ws)
  pub one_user : (r n m i j : ℕ) (x y : Spot) (s : Source) → slice_get (spots p (suc r)) n ≡ Some x
      → slice_get (spots p (suc r)) m ≡ Some y → source_at x.cell i ≡ Some s → source_at y.cell j ≡ Some s
      → (n ≡ m) × (i ≡ j)

-- each number below the count has one cell of the row
pub record HasPorts (p : PlacedView) (port : RowCell → Option ℕ) (r count : ℕ) : Type 0 where
  pub some : (n : ℕ) → n < count → (k : ℕ) × PortAt p port r n k
  pub once : (n k m : ℕ) (x y : Spot) → slice_get (spots p r) k ≡ Some x → slice_get (spots p r) m ≡ Some y
      → has_port (port x.cell) n ≡ true → has_port (port y.cell) n ≡ true → k ≡ m

-- each pin of row r has a port below the count
abbrev pub PortsAll : PlacedView → (RowCell → Option ℕ) → (RowCell → ℕ) → ℕ → ℕ → Type 0
PortsAll p port pins r count = (k : ℕ) (x : Spot) → slice_get (spots p r) k ≡ Some x → 0 < pins x.cell
    → (n : ℕ) × (n < count) × (has_port (port x.cell) n ≡ true) × (x.cell.kind ≡ Buffer)
