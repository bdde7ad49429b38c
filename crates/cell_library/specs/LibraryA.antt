-- Library A, the library that comes with the program: tracks and columns 2 micrometres apart, four columns a slot.
use Rattle.std.specs.Prelude.{ℕ, List, [], ◌∷◌, Option, Some}
use Rattle.cell_library.specs.declared.draft.Pins.{Pins}
use Rattle.cell_library.specs.Library.{LibraryView}

-- a kind with pins in these columns
abbrev pub pins_at : List ℕ → List ℕ → Option Pins
pins_at inputs outputs = Some (record { inputs = inputs; outputs = outputs })

-- the numbers and the pins of library A
abbrev pub library_a_view : LibraryView
library_a_view = record {
  wire = 1000;
  space = 1000;
  via = 600;
  enclose = 200;
  pin = 1000;
  height = 10000;
  pitch = 2000;
  columns = 4;
  capacity = 28;
  limit = 180000;
  pins =
      pins_at (1 ∷ []) (2 ∷ [])
      ∷ pins_at (1 ∷ []) (2 ∷ [])
      ∷ pins_at [] (2 ∷ [])
      ∷ pins_at [] (2 ∷ [])
      ∷ pins_at (1 ∷ []) (2 ∷ 6 ∷ [])
      ∷ pins_at (1 ∷ []) (2 ∷ 6 ∷ 10 ∷ [])
      ∷ pins_at (1 ∷ 5 ∷ 9 ∷ []) (2 ∷ [])
      ∷ [];
}
