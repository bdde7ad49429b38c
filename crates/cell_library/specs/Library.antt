-- What a library of cells gives: its numbers, and the columns of the pins of each kind. Sizes are in nanometres.
use Rattle.std.specs.Prelude.{ℕ, ◌-◌, List, [], slice_get, slice_index, Option, None, IsSome, unwrap_or}
use Rattle.std.specs.Option.{option_map_or}
use Rattle.circuit.specs.declared.cell_kind.CellKind.{CellKind}
use Rattle.circuit.specs.CellKinds.{number_of}
use Rattle.layout_rules.specs.Limits.{Limits}
use Rattle.cell_library.specs.declared.draft.Pins.{Pins}

-- a library as contracts see it
pub record LibraryView : Type 0 where
  -- the width of a wire
  pub wire : ℕ
  -- the least space between two wires
  pub space : ℕ
  -- the side of a via
  pub via : ℕ
  -- how far metal reaches past a via on each side, at least
  pub enclose : ℕ
  -- the height of a pin
  pub pin : ℕ
  -- the height of a cell
  pub height : ℕ
  -- the distance of neighbouring columns, and of neighbouring tracks
  pub pitch : ℕ
  -- how many columns a slot has
  pub columns : ℕ
  -- how many tracks a channel has
  pub capacity : ℕ
  -- the greatest length of a wire
  pub limit : ℕ
  -- the pins of each kind, by rising number of the kinds; a kind that is not given has none
  pub pins : List (Option Pins)

-- the pins of a kind
abbrev pub pins_of : LibraryView → CellKind → Option Pins
pins_of l kind = unwrap_or (slice_get l.pins (number_of kind - 1)) None

-- the library has cells of the kind
abbrev pub IsGiven : LibraryView → CellKind → Type 0
IsGiven l kind = IsSome (pins_of l kind)

-- the column of an input pin, counted from the cell's left edge
abbrev pub input_column_of : LibraryView → CellKind → ℕ → ℕ
input_column_of l kind pin = slice_index (option_map_or (λ pins. pins.inputs) (pins_of l kind) []) pin

-- the column of an output pin, counted so
abbrev pub output_column_of : LibraryView → CellKind → ℕ → ℕ
output_column_of l kind pin = slice_index (option_map_or (λ pins. pins.outputs) (pins_of l kind) []) pin

-- the numbers that the rules of geometry read
abbrev pub limits_of : LibraryView → Limits
limits_of l = record { wire = l.wire; space = l.space; via = l.via; enclose = l.enclose; pin = l.pin; limit = l.limit }
