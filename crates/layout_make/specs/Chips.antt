-- Worked chips with library A, each with the layout or the flat form that another program drew of it.
use Rattle.std.specs.Prelude.{[], ◌∷◌, pos, negsuc}
use Rattle.circuit.specs.declared.cell_kind.CellKind.TheVariants.{Zero, Split3, Majority}
use Rattle.geom.specs.declared.shapes.Flat.{Flat}
use Rattle.geom.specs.FirstChip.{drawn, labelled}
use Rattle.rowed.specs.MadeCells.{source, cell, bare_cell, fed_cell, input_cell, output_cell}
use Rattle.rowed.specs.PlacedNets.{PlacedView}
use Rattle.cell_library.specs.Library.{LibraryView}
use Rattle.cell_library.specs.LibraryA.{library_a_view, pins_at}

-- a buffer in each of two rows
abbrev pub first_placed : PlacedView
first_placed = record {
  net = record { inputs = 1; outputs = 1; rows = (input_cell 0 ∷ []) ∷ (output_cell (source 0 0) 0 ∷ []) ∷ [] };
  slots = (0 ∷ []) ∷ (0 ∷ []) ∷ [];
  lag = 0;
}

-- the and of two inputs: a majority with a constant between them
abbrev pub second_placed : PlacedView
second_placed = record {
  net = record {
    inputs = 2;
    outputs = 1;
    rows = (input_cell 0 ∷ bare_cell Zero ∷ input_cell 1 ∷ [])
        ∷ (cell Majority (source 0 0 ∷ source 1 0 ∷ source 2 0 ∷ []) ∷ [])
        ∷ (output_cell (source 0 0) 0 ∷ [])
        ∷ [];
  };
  slots = (0 ∷ 1 ∷ 2 ∷ []) ∷ (0 ∷ []) ∷ (0 ∷ []) ∷ [];
  lag = 0;
}

-- its flat form
unfoldable pub second_flat : Flat
second_flat = record {
  shapes =
      drawn 20 1 (pos 0) (pos 0) (pos 8000) (pos 10000)
      ∷ drawn 21 0 (pos 2500) (pos 0) (pos 3500) (pos 1000)
      ∷ drawn 22 0 (pos 4500) (pos 9000) (pos 5500) (pos 10000)
      ∷ drawn 20 3 (pos 8000) (pos 0) (pos 16000) (pos 10000)
      ∷ drawn 22 0 (pos 12500) (pos 9000) (pos 13500) (pos 10000)
      ∷ drawn 20 1 (pos 16000) (pos 0) (pos 24000) (pos 10000)
      ∷ drawn 21 0 (pos 18500) (pos 0) (pos 19500) (pos 1000)
      ∷ drawn 22 0 (pos 20500) (pos 9000) (pos 21500) (pos 10000)
      ∷ drawn 14 2 (negsuc 3999) (pos 0) (pos 0) (pos 10000)
      ∷ drawn 14 0 (pos 0) (pos 0) (pos 24000) (pos 10000)
      ∷ drawn 10 0 (pos 4500) (pos 9000) (pos 5500) (pos 12500)
      ∷ drawn 10 0 (pos 2500) (pos 11500) (pos 3500) (pos 15000)
      ∷ drawn 12 0 (pos 2500) (pos 11500) (pos 5500) (pos 12500)
      ∷ drawn 11 0 (pos 4700) (pos 11700) (pos 5300) (pos 12300)
      ∷ drawn 11 0 (pos 2700) (pos 11700) (pos 3300) (pos 12300)
      ∷ drawn 10 0 (pos 12500) (pos 9000) (pos 13500) (pos 12500)
      ∷ drawn 10 0 (pos 10500) (pos 11500) (pos 11500) (pos 15000)
      ∷ drawn 12 0 (pos 10500) (pos 11500) (pos 13500) (pos 12500)
      ∷ drawn 11 0 (pos 12700) (pos 11700) (pos 13300) (pos 12300)
      ∷ drawn 11 0 (pos 10700) (pos 11700) (pos 11300) (pos 12300)
      ∷ drawn 10 0 (pos 20500) (pos 9000) (pos 21500) (pos 12500)
      ∷ drawn 10 0 (pos 18500) (pos 11500) (pos 19500) (pos 15000)
      ∷ drawn 12 0 (pos 18500) (pos 11500) (pos 21500) (pos 12500)
      ∷ drawn 11 0 (pos 20700) (pos 11700) (pos 21300) (pos 12300)
      ∷ drawn 11 0 (pos 18700) (pos 11700) (pos 19300) (pos 12300)
      ∷ drawn 20 7 (pos 0) (pos 14000) (pos 24000) (pos 24000)
      ∷ drawn 21 0 (pos 2500) (pos 14000) (pos 3500) (pos 15000)
      ∷ drawn 21 1 (pos 10500) (pos 14000) (pos 11500) (pos 15000)
      ∷ drawn 21 2 (pos 18500) (pos 14000) (pos 19500) (pos 15000)
      ∷ drawn 22 0 (pos 4500) (pos 23000) (pos 5500) (pos 24000)
      ∷ drawn 15 2 (negsuc 3999) (pos 14000) (pos 0) (pos 24000)
      ∷ drawn 15 0 (pos 0) (pos 14000) (pos 24000) (pos 24000)
      ∷ drawn 10 0 (pos 4500) (pos 23000) (pos 5500) (pos 26500)
      ∷ drawn 10 0 (pos 2500) (pos 25500) (pos 3500) (pos 29000)
      ∷ drawn 12 0 (pos 2500) (pos 25500) (pos 5500) (pos 26500)
      ∷ drawn 11 0 (pos 4700) (pos 25700) (pos 5300) (pos 26300)
      ∷ drawn 11 0 (pos 2700) (pos 25700) (pos 3300) (pos 26300)
      ∷ drawn 20 1 (pos 0) (pos 28000) (pos 8000) (pos 38000)
      ∷ drawn 21 0 (pos 2500) (pos 28000) (pos 3500) (pos 29000)
      ∷ drawn 22 0 (pos 4500) (pos 37000) (pos 5500) (pos 38000)
      ∷ drawn 14 1 (pos 24000) (pos 0) (pos 28000) (pos 38000)
      ∷ drawn 14 0 (pos 0) (pos 28000) (pos 24000) (pos 38000)
      ∷ [];
  labels =
      labelled (pos 3000) (pos 500) (73 ∷ 48 ∷ [])
      ∷ labelled (pos 19000) (pos 500) (73 ∷ 49 ∷ [])
      ∷ labelled (pos 5000) (pos 37500) (79 ∷ 48 ∷ [])
      ∷ [];
}

-- one input that is read three times: a splitter of three, in a row of its own, between rows of one cell and of three
abbrev pub third_placed : PlacedView
third_placed = record {
  net = record {
    inputs = 1;
    outputs = 3;
    rows = (input_cell 0 ∷ [])
        ∷ (fed_cell Split3 (source 0 0) ∷ [])
        ∷ (output_cell (source 0 0) 0 ∷ output_cell (source 0 1) 1 ∷ output_cell (source 0 2) 2 ∷ [])
        ∷ [];
  };
  slots = (0 ∷ []) ∷ (0 ∷ []) ∷ (0 ∷ 1 ∷ 2 ∷ []) ∷ [];
  lag = 0;
}

-- its flat form
unfoldable pub third_flat : Flat
third_flat = record {
  shapes =
      drawn 20 1 (pos 0) (pos 0) (pos 8000) (pos 10000)
      ∷ drawn 21 0 (pos 2500) (pos 0) (pos 3500) (pos 1000)
      ∷ drawn 22 0 (pos 4500) (pos 9000) (pos 5500) (pos 10000)
      ∷ drawn 14 2 (negsuc 3999) (pos 0) (pos 0) (pos 10000)
      ∷ drawn 14 0 (pos 0) (pos 0) (pos 24000) (pos 10000)
      ∷ drawn 10 0 (pos 4500) (pos 9000) (pos 5500) (pos 12500)
      ∷ drawn 10 0 (pos 2500) (pos 11500) (pos 3500) (pos 15000)
      ∷ drawn 12 0 (pos 2500) (pos 11500) (pos 5500) (pos 12500)
      ∷ drawn 11 0 (pos 4700) (pos 11700) (pos 5300) (pos 12300)
      ∷ drawn 11 0 (pos 2700) (pos 11700) (pos 3300) (pos 12300)
      ∷ drawn 20 6 (pos 0) (pos 14000) (pos 24000) (pos 24000)
      ∷ drawn 21 0 (pos 2500) (pos 14000) (pos 3500) (pos 15000)
      ∷ drawn 22 0 (pos 4500) (pos 23000) (pos 5500) (pos 24000)
      ∷ drawn 22 1 (pos 12500) (pos 23000) (pos 13500) (pos 24000)
      ∷ drawn 22 2 (pos 20500) (pos 23000) (pos 21500) (pos 24000)
      ∷ drawn 15 2 (negsuc 3999) (pos 14000) (pos 0) (pos 24000)
      ∷ drawn 15 0 (pos 0) (pos 14000) (pos 24000) (pos 24000)
      ∷ drawn 10 0 (pos 4500) (pos 23000) (pos 5500) (pos 26500)
      ∷ drawn 10 0 (pos 2500) (pos 25500) (pos 3500) (pos 29000)
      ∷ drawn 12 0 (pos 2500) (pos 25500) (pos 5500) (pos 26500)
      ∷ drawn 11 0 (pos 4700) (pos 25700) (pos 5300) (pos 26300)
      ∷ drawn 11 0 (pos 2700) (pos 25700) (pos 3300) (pos 26300)
      ∷ drawn 10 0 (pos 12500) (pos 23000) (pos 13500) (pos 26500)
      ∷ drawn 10 0 (pos 10500) (pos 25500) (pos 11500) (pos 29000)
      ∷ drawn 12 0 (pos 10500) (pos 25500) (pos 13500) (pos 26500)
      ∷ drawn 11 0 (pos 12700) (pos 25700) (pos 13300) (pos 26300)
      ∷ drawn 11 0 (pos 10700) (pos 25700) (pos 11300) (pos 26300)
      ∷ drawn 10 0 (pos 20500) (pos 23000) (pos 21500) (pos 26500)
      ∷ drawn 10 0 (pos 18500) (pos 25500) (pos 19500) (pos 29000)
      ∷ drawn 12 0 (pos 18500) (pos 25500) (pos 21500) (pos 26500)
      ∷ drawn 11 0 (pos 20700) (pos 25700) (pos 21300) (pos 26300)
      ∷ drawn 11 0 (pos 18700) (pos 25700) (pos 19300) (pos 26300)
      ∷ drawn 20 1 (pos 0) (pos 28000) (pos 8000) (pos 38000)
      ∷ drawn 21 0 (pos 2500) (pos 28000) (pos 3500) (pos 29000)
      ∷ drawn 22 0 (pos 4500) (pos 37000) (pos 5500) (pos 38000)
      ∷ drawn 20 1 (pos 8000) (pos 28000) (pos 16000) (pos 38000)
      ∷ drawn 21 0 (pos 10500) (pos 28000) (pos 11500) (pos 29000)
      ∷ drawn 22 0 (pos 12500) (pos 37000) (pos 13500) (pos 38000)
      ∷ drawn 20 1 (pos 16000) (pos 28000) (pos 24000) (pos 38000)
      ∷ drawn 21 0 (pos 18500) (pos 28000) (pos 19500) (pos 29000)
      ∷ drawn 22 0 (pos 20500) (pos 37000) (pos 21500) (pos 38000)
      ∷ drawn 14 1 (pos 24000) (pos 0) (pos 28000) (pos 38000)
      ∷ drawn 14 0 (pos 0) (pos 28000) (pos 24000) (pos 38000)
      ∷ [];
  labels =
      labelled (pos 3000) (pos 500) (73 ∷ 48 ∷ [])
      ∷ labelled (pos 5000) (pos 37500) (79 ∷ 48 ∷ [])
      ∷ labelled (pos 13000) (pos 37500) (79 ∷ 49 ∷ [])
      ∷ labelled (pos 21000) (pos 37500) (79 ∷ 50 ∷ [])
      ∷ [];
}

-- the least library that keeps the laws: sizes, columns, tracks and limit cannot be less
abbrev pub least_library : LibraryView
least_library = record {
  wire = 6;
  space = 2;
  via = 2;
  enclose = 2;
  pin = 6;
  height = 14;
  pitch = 8;
  columns = 2;
  capacity = 4;
  limit = 96;
  pins =
      pins_at (1 ∷ []) (0 ∷ [])
      ∷ pins_at (1 ∷ []) (0 ∷ [])
      ∷ pins_at [] (0 ∷ [])
      ∷ pins_at [] (0 ∷ [])
      ∷ pins_at (1 ∷ []) (0 ∷ 2 ∷ [])
      ∷ pins_at (1 ∷ []) (0 ∷ 2 ∷ 4 ∷ [])
      ∷ pins_at (1 ∷ 3 ∷ 5 ∷ []) (0 ∷ [])
      ∷ [];
}

-- the third chip with it
unfoldable pub least_flat : Flat
least_flat = record {
  shapes =
      drawn 20 1 (pos 0) (pos 0) (pos 16) (pos 14)
      ∷ drawn 21 0 (pos 9) (pos 0) (pos 15) (pos 6)
      ∷ drawn 22 0 (pos 1) (pos 8) (pos 7) (pos 14)
      ∷ drawn 14 2 (negsuc 15) (pos 0) (pos 0) (pos 14)
      ∷ drawn 14 0 (pos 0) (pos 0) (pos 48) (pos 14)
      ∷ drawn 10 0 (pos 1) (pos 8) (pos 7) (pos 25)
      ∷ drawn 10 0 (pos 9) (pos 19) (pos 15) (pos 36)
      ∷ drawn 12 0 (pos 1) (pos 19) (pos 15) (pos 25)
      ∷ drawn 11 0 (pos 3) (pos 21) (pos 5) (pos 23)
      ∷ drawn 11 0 (pos 11) (pos 21) (pos 13) (pos 23)
      ∷ drawn 20 6 (pos 0) (pos 30) (pos 48) (pos 44)
      ∷ drawn 21 0 (pos 9) (pos 30) (pos 15) (pos 36)
      ∷ drawn 22 0 (pos 1) (pos 38) (pos 7) (pos 44)
      ∷ drawn 22 1 (pos 17) (pos 38) (pos 23) (pos 44)
      ∷ drawn 22 2 (pos 33) (pos 38) (pos 39) (pos 44)
      ∷ drawn 15 2 (negsuc 15) (pos 30) (pos 0) (pos 44)
      ∷ drawn 15 0 (pos 0) (pos 30) (pos 48) (pos 44)
      ∷ drawn 10 0 (pos 1) (pos 38) (pos 7) (pos 55)
      ∷ drawn 10 0 (pos 9) (pos 49) (pos 15) (pos 66)
      ∷ drawn 12 0 (pos 1) (pos 49) (pos 15) (pos 55)
      ∷ drawn 11 0 (pos 3) (pos 51) (pos 5) (pos 53)
      ∷ drawn 11 0 (pos 11) (pos 51) (pos 13) (pos 53)
      ∷ drawn 10 0 (pos 17) (pos 38) (pos 23) (pos 55)
      ∷ drawn 10 0 (pos 25) (pos 49) (pos 31) (pos 66)
      ∷ drawn 12 0 (pos 17) (pos 49) (pos 31) (pos 55)
      ∷ drawn 11 0 (pos 19) (pos 51) (pos 21) (pos 53)
      ∷ drawn 11 0 (pos 27) (pos 51) (pos 29) (pos 53)
      ∷ drawn 10 0 (pos 33) (pos 38) (pos 39) (pos 55)
      ∷ drawn 10 0 (pos 41) (pos 49) (pos 47) (pos 66)
      ∷ drawn 12 0 (pos 33) (pos 49) (pos 47) (pos 55)
      ∷ drawn 11 0 (pos 35) (pos 51) (pos 37) (pos 53)
      ∷ drawn 11 0 (pos 43) (pos 51) (pos 45) (pos 53)
      ∷ drawn 20 1 (pos 0) (pos 60) (pos 16) (pos 74)
      ∷ drawn 21 0 (pos 9) (pos 60) (pos 15) (pos 66)
      ∷ drawn 22 0 (pos 1) (pos 68) (pos 7) (pos 74)
      ∷ drawn 20 1 (pos 16) (pos 60) (pos 32) (pos 74)
      ∷ drawn 21 0 (pos 25) (pos 60) (pos 31) (pos 66)
      ∷ drawn 22 0 (pos 17) (pos 68) (pos 23) (pos 74)
      ∷ drawn 20 1 (pos 32) (pos 60) (pos 48) (pos 74)
      ∷ drawn 21 0 (pos 41) (pos 60) (pos 47) (pos 66)
      ∷ drawn 22 0 (pos 33) (pos 68) (pos 39) (pos 74)
      ∷ drawn 14 1 (pos 48) (pos 0) (pos 64) (pos 74)
      ∷ drawn 14 0 (pos 0) (pos 60) (pos 48) (pos 74)
      ∷ [];
  labels =
      labelled (pos 12) (pos 3) (73 ∷ 48 ∷ [])
      ∷ labelled (pos 4) (pos 71) (79 ∷ 48 ∷ [])
      ∷ labelled (pos 20) (pos 71) (79 ∷ 49 ∷ [])
      ∷ labelled (pos 36) (pos 71) (79 ∷ 50 ∷ [])
      ∷ [];
}

-- a library with the widest columns, and nearly as many of them in a slot as a cell of three slots may have
abbrev pub wide_library : LibraryView
wide_library = record library_a_view {
  pitch = 1000000;
  columns = 700;
  capacity = 4;
  limit = 2000000000;
  pins =
      pins_at (1 ∷ []) (2 ∷ [])
      ∷ pins_at (1 ∷ []) (2 ∷ [])
      ∷ pins_at [] (2 ∷ [])
      ∷ pins_at [] (2 ∷ [])
      ∷ pins_at (1 ∷ []) (2 ∷ 702 ∷ [])
      ∷ pins_at (1 ∷ []) (2 ∷ 702 ∷ 1402 ∷ [])
      ∷ pins_at (1 ∷ 701 ∷ 1401 ∷ []) (2 ∷ [])
      ∷ [];
}

-- the first chip with it
unfoldable pub wide_flat : Flat
wide_flat = record {
  shapes =
      drawn 20 1 (pos 0) (pos 0) (pos 700000000) (pos 10000)
      ∷ drawn 21 0 (pos 1499500) (pos 0) (pos 1500500) (pos 1000)
      ∷ drawn 22 0 (pos 2499500) (pos 9000) (pos 2500500) (pos 10000)
      ∷ drawn 14 2 (negsuc 1999999) (pos 0) (pos 0) (pos 10000)
      ∷ drawn 14 0 (pos 0) (pos 0) (pos 700000000) (pos 10000)
      ∷ drawn 10 0 (pos 2499500) (pos 9000) (pos 2500500) (pos 1010500)
      ∷ drawn 10 0 (pos 1499500) (pos 1009500) (pos 1500500) (pos 2011000)
      ∷ drawn 12 0 (pos 1499500) (pos 1009500) (pos 2500500) (pos 1010500)
      ∷ drawn 11 0 (pos 2499700) (pos 1009700) (pos 2500300) (pos 1010300)
      ∷ drawn 11 0 (pos 1499700) (pos 1009700) (pos 1500300) (pos 1010300)
      ∷ drawn 20 1 (pos 0) (pos 2010000) (pos 700000000) (pos 2020000)
      ∷ drawn 21 0 (pos 1499500) (pos 2010000) (pos 1500500) (pos 2011000)
      ∷ drawn 22 0 (pos 2499500) (pos 2019000) (pos 2500500) (pos 2020000)
      ∷ drawn 15 2 (negsuc 1999999) (pos 2010000) (pos 0) (pos 2020000)
      ∷ drawn 15 0 (pos 0) (pos 2010000) (pos 700000000) (pos 2020000)
      ∷ [];
  labels = labelled (pos 1500000) (pos 500) (73 ∷ 48 ∷ []) ∷ labelled (pos 2500000) (pos 2019500) (79 ∷ 48 ∷ []) ∷ [];
}
