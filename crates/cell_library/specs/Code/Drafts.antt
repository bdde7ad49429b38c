-- A library as its numbers and the pins of its kinds.
use Rattle.std.specs.Prelude.{List, Option}
use Rattle.cell_library.specs.declared.draft.Pins.{Pins}
use Rattle.cell_library.specs.declared.draft.Numbers.{Numbers}
use Rattle.cell_library.specs.Library.{LibraryView}

-- the library of these numbers and pins
abbrev pub drafted : Numbers → List (Option Pins) → LibraryView
drafted numbers pins = record {
  wire = numbers.wire;
  space = numbers.space;
  via = numbers.via;
  enclose = numbers.enclose;
  pin = numbers.pin;
  height = numbers.height;
  pitch = numbers.pitch;
  columns = numbers.columns;
  capacity = numbers.capacity;
  limit = numbers.limit;
  pins = pins;
}
