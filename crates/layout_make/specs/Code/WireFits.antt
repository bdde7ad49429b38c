-- What the code asks of a pin that it draws a wire to: its source is there, and all columns are numbers of 32 bits.
use Rattle.std.specs.Prelude.{◌≡◌, ℕ, ◌+◌, ◌*◌, ◌<◌, ◌^◌, List, Some, slice_get}
use Rattle.circuit.specs.CellKinds.{inputs_of, outputs_of, slots_of}
use Rattle.rowed.specs.declared.source.Source.{Source}
use Rattle.rowed.specs.RowCells.{source_at}
use Rattle.cell_library.specs.Library.{LibraryView, IsGiven}
use Rattle.layout_make.specs.Spots.{Spot}

-- the library gives the cell's kind, and its columns are numbers of 32 bits
pub record CellFits (l : LibraryView) (x : Spot) : Type 0 where
  pub given : IsGiven l x.cell.kind
  pub columns : (x.slot + slots_of x.cell.kind) * l.columns < 2 ^ 32
  pub slots : x.slot + slots_of x.cell.kind < 2 ^ 32

-- the source is an output of a cell of the lower row
pub record SourceFits (l : LibraryView) (lower : List Spot) (s : Source) : Type 0 where
  pub from : Spot
  pub from_at : slice_get lower s.cell ≡ Some from
  pub output_below : s.output < outputs_of from.cell.kind
  pub from_fits : CellFits l from

-- so is the source of the pin, which is one of the cell's
pub record PinFits (l : LibraryView) (lower : List Spot) (x : Spot) (i : ℕ) (s : Source) : Type 0 where
  pub source : SourceFits l lower s
  pub pin_below : i < inputs_of x.cell.kind
  pub cell : CellFits l x

-- it is so at each pin of the upper row that is fed
abbrev pub WiresFit : LibraryView → List Spot → List Spot → Type 0
WiresFit l lower upper = (n i : ℕ) (x : Spot) (s : Source) → slice_get upper n ≡ Some x → source_at x.cell i ≡ Some s
    → PinFits l lower x i s
