-- The shapes of a drawing, each by its tag, in the order of the flat form.
use Rattle.std.specs.Prelude.{◌≡◌, ℕ, zero, suc, ◌+◌, ◌*◌, List, [], ◌∷◌, ◌++◌, map, length, nat_lt, slice_index_or}
use Rattle.std.specs.Prelude.{slice_get, Some}
use Rattle.std.specs.List.{flat_map}
use Rattle.circuit.specs.CellKinds.{inputs_of, outputs_of}
use Rattle.circuit.specs.declared.cell_kind.CellKind.{CellKind}
use Rattle.rowed.specs.declared.wire.Wire.{Wire}
use Rattle.sorting.specs.Numbers.{numbers, place_of}
use Rattle.rowed.specs.PlacedNets.{PlacedView, placed_rows}
use Rattle.rowed.specs.Extent.{widest}
use Rattle.channel_route.specs.Tracks.{tracks_used, route_of}
use Rattle.cell_library.specs.Library.{LibraryView, input_column_of, output_column_of}
use Rattle.layout_make.specs.Sheet.{Sheet, Tag, Frame, InPin, OutPin, Lead, Bar, Rise, Fall, Across, FromVia, ToVia}
use Rattle.layout_make.specs.Spots.{Spot, spots}
use Rattle.layout_make.specs.Channel.{from_of, channel}

-- the place of the wire that begins in a column; the number of wires, where none does
abbrev pub wire_place : List Wire → ℕ → ℕ
wire_place ws c = place_of (map from_of ws) c

-- the column where a wire ends
abbrev pub end_of : Wire → ℕ
end_of w = w.to_column

-- where the rows and wires of a net go
unfoldable pub sheet : PlacedView → LibraryView → Sheet
sheet p l = record {
  library = l;
  rows = length p.net.rows;
  right = widest (placed_rows p) * (l.columns * l.pitch);
  lag = p.lag;
  used = λ r. tracks_used (channel p l r);
  wired = λ r c. nat_lt (wire_place (channel p l r) c) (length (channel p l r));
  to = λ r c. slice_index_or (map end_of (channel p l r)) (wire_place (channel p l r) c) 0;
  track = λ r c. slice_index_or (route_of (channel p l r)) (wire_place (channel p l r) c) 0;
}

-- the shapes of a cell: its frame and its pins
abbrev pub cell_tags : LibraryView → ℕ → ℕ → CellKind → List Tag
cell_tags l r slot kind =
    Frame r slot kind
    ∷ (map (λ i. InPin r (slot * l.columns + input_column_of l kind i) i) (numbers 0 (inputs_of kind))
    ++ map (λ o. OutPin r (slot * l.columns + output_column_of l kind o) o) (numbers 0 (outputs_of kind)))

-- the shapes of a cell in its slot
abbrev pub spot_tags : LibraryView → ℕ → Spot → List Tag
spot_tags l r s = cell_tags l r s.slot s.cell.kind

-- the shapes of a wire
abbrev pub wire_tags : ℕ → Wire → List Tag
wire_tags r w = Rise r w.from_column ∷ Fall r w.from_column ∷ Across r w.from_column ∷ FromVia r w.from_column
    ∷ ToVia r w.from_column ∷ []

-- the shapes of a row's line
abbrev pub line_tags : ℕ → List Tag
line_tags r = Lead (suc r) ∷ Bar (suc r) ∷ []

-- the start and the bar of a delay of this width, and none of none
abbrev pub lag_tags : ℕ → List Tag
lag_tags zero = []
lag_tags (suc lag) = Lead 0 ∷ Bar 0 ∷ []

-- the shapes of a row and of the channel above it
abbrev pub row_tags : PlacedView → LibraryView → ℕ → List Tag
row_tags p l r = flat_map (spot_tags l r) (spots p r) ++ (line_tags r ++ flat_map (wire_tags r) (channel p l r))

-- all shapes, by rising row, and last those of the delay
abbrev pub tags : PlacedView → LibraryView → List Tag
tags p l = flat_map (row_tags p l) (numbers 0 (length p.net.rows)) ++ lag_tags p.lag

-- tag t stands at number i
abbrev pub At : List Tag → ℕ → Tag → Type 0
At ts i t = slice_get ts i ≡ Some t
