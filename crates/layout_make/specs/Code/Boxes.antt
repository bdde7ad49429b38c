-- Shapes of a drawing by themselves, as the code makes them.
use Rattle.std.specs.Prelude.{ℕ, zero, suc, ℤ, ◌+◌, ◌-◌, ◌*◌, ◌%◌, List, [], ◌∷◌, ◌++◌, map, pos, neg_ℤ}
use Rattle.circuit.specs.CellKinds.{number_of, slots_of, inputs_of, outputs_of}
use Rattle.circuit.specs.declared.cell_kind.CellKind.{CellKind}
use Rattle.geom.specs.declared.layout.Element.{Element}
use Rattle.geom.specs.declared.layout.Element.TheVariants.{Box, Place}
use Rattle.layout_rules.specs.declared.layers.TheConstants.{M1, VIA, M2, EVEN_LINE, ODD_LINE, BAR, START, FRAME}
use Rattle.layout_rules.specs.declared.layers.TheConstants.{INPUT_PIN}
use Rattle.layout_rules.specs.declared.layers.TheConstants.{OUTPUT_PIN}
use Rattle.rowed.specs.declared.wire.Wire.{Wire}
use Rattle.sorting.specs.Numbers.{numbers}
use Rattle.cell_library.specs.Library.{LibraryView, input_column_of, output_column_of}
use Rattle.layout_make.specs.Sheet.{Area, rect_of, upright, square, rise_area, fall_area, across_area, flank_rect}
use Rattle.layout_make.specs.Sheet.{lead_flank, lead_use, RightOf, Over}
use Rattle.layout_make.specs.Spots.{Spot}
use Rattle.layout_make.specs.Draw.{kind_place}

-- the shape of a layer and a datatype that fills an area
abbrev pub boxed : ℕ → ℕ → Area → Element
boxed layer datatype area = Box (record { layer = layer; datatype = datatype; rect = rect_of area })

-- the height of a track in the channel above the row with this lower edge
abbrev pub bend_of : LibraryView → ℕ → ℕ → ℕ
bend_of l row track = row + l.height + (track + 1) * l.pitch

-- a wire, between rows with these lower edges, on a track
abbrev pub wire_boxes : LibraryView → ℕ → ℕ → Wire → ℕ → List Element
wire_boxes l row next w track =
    boxed M1 0 (rise_area l row w.from_column (bend_of l row track))
    ∷ boxed M1 0 (fall_area l next w.to_column (bend_of l row track))
    ∷ boxed M2 0 (across_area l w.from_column w.to_column (bend_of l row track))
    ∷ boxed VIA 0 (square l w.from_column (bend_of l row track))
    ∷ boxed VIA 0 (square l w.to_column (bend_of l row track))
    ∷ []

-- the start or the link that leads to the bar of row r, from the height `first`, where the odd rows lag so far behind
abbrev pub lead_box : LibraryView → ℕ → ℕ → ℕ → ℤ → ℕ → Element
lead_box l right lag r first row =
    Box (record {
      layer = EVEN_LINE + r % 2;
      datatype = lead_use lag (suc r);
      rect = flank_rect l right (lead_flank (suc r)) first (pos (row + l.height));
    })

-- the height where the lead of row r begins, which has this lower edge, as the row two below has the other one
abbrev pub lead_low : LibraryView → ℕ → ℕ → ℕ → ℕ → ℤ
lead_low l lag zero edge two_before = pos edge
lead_low l zero (suc zero) edge two_before = pos edge
lead_low l (suc lag) (suc zero) edge two_before = neg_ℤ (pos (2 * l.height))
lead_low l lag (suc (suc r)) edge two_before = pos two_before

-- the bar of row r
abbrev pub bar_box : LibraryView → ℕ → ℕ → ℕ → Element
bar_box l right r row =
    boxed (EVEN_LINE + r % 2) BAR (record { left = 0; low = row; right = right; high = row + l.height })

-- the start of the odd line right of a bar of this width, which delays it a row's height below the rows
abbrev pub lag_start : LibraryView → ℕ → Element
lag_start l lag =
    Box (record {
      layer = ODD_LINE;
      datatype = START;
      rect = flank_rect l lag RightOf (neg_ℤ (pos (2 * l.height))) (neg_ℤ (pos l.height));
    })

-- that bar
abbrev pub lag_bar : LibraryView → ℕ → Element
lag_bar l lag =
    Box (record {
      layer = ODD_LINE;
      datatype = BAR;
      rect = flank_rect l lag Over (neg_ℤ (pos (2 * l.height))) (neg_ℤ (pos l.height));
    })

-- both, and none where the bar has no width
abbrev pub lag_boxes : LibraryView → ℕ → List Element
lag_boxes l zero = []
lag_boxes l (suc n) = lag_start l (suc n) ∷ lag_bar l (suc n) ∷ []

-- the wires of a channel, on these tracks
abbrev pub channel_boxes : LibraryView → ℕ → ℕ → List Wire → List ℕ → List Element
channel_boxes l row next [] tracks = []
channel_boxes l row next (w ∷ ws) [] = []
channel_boxes l row next (w ∷ ws) (t ∷ tracks) = wire_boxes l row next w t ++ channel_boxes l row next ws tracks

-- a cell by itself
abbrev pub frame_box : LibraryView → CellKind → Element
frame_box l k =
    boxed FRAME (number_of k)
    (record { left = 0; low = 0; right = slots_of k * (l.columns * l.pitch); high = l.height })

-- the input pin of a cell by itself
abbrev pub in_box : LibraryView → CellKind → ℕ → Element
in_box l k i = boxed INPUT_PIN i (upright l (input_column_of l k i) 0 l.pin)

-- its output pin
abbrev pub out_box : LibraryView → CellKind → ℕ → Element
out_box l k o = boxed OUTPUT_PIN o (upright l (output_column_of l k o) (l.height - l.pin) l.height)

-- all shapes of a cell by itself
abbrev pub cell_boxes : LibraryView → CellKind → List Element
cell_boxes l k =
    frame_box l k ∷ (map (in_box l k) (numbers 0 (inputs_of k)) ++ map (out_box l k) (numbers 0 (outputs_of k)))

-- a reference to the structure of a cell's kind
abbrev pub place_box : LibraryView → List CellKind → ℕ → Spot → Element
place_box l kinds row x = Place (kind_place x.cell.kind kinds) (pos (x.slot * (l.columns * l.pitch))) (pos row)

-- the cells and the line of a row
abbrev pub row_boxes : LibraryView → List CellKind → ℕ → ℕ → ℕ → List Spot → ℤ → ℕ → List Element
row_boxes l kinds right lag r xs first row = map (place_box l kinds row) xs
    ++ (lead_box l right lag r first row ∷ bar_box l right r row ∷ [])
