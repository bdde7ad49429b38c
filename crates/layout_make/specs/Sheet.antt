-- What is drawn: a sheet says where wires go, a tag names one shape, and its place follows in closed form.
use Rattle.std.specs.Prelude.{ℕ, zero, suc, ◌+◌, ◌-◌, ◌*◌, ◌/◌, ◌%◌, min, max, Bool, true, false, ℤ, pos, neg_ℤ}
use Rattle.std.specs.Prelude.{nat_lt, if◌then◌else◌}
use Rattle.circuit.specs.CellKinds.{number_of, slots_of}
use Rattle.circuit.specs.declared.cell_kind.CellKind.{CellKind}
use Rattle.geom.specs.Rectangle.{Rectangle, positive_part}
use Rattle.geom.specs.declared.shapes.Shape.{Shape}
use Rattle.layout_rules.specs.declared.layers.TheConstants.{M1, VIA, M2, EVEN_LINE, FRAME, INPUT_PIN, OUTPUT_PIN, BAR}
use Rattle.layout_rules.specs.declared.layers.TheConstants.{LINK, START}
use Rattle.cell_library.specs.Library.{LibraryView}
pub use Rattle.layout_make.specs.declared.areas.Area.{Area}

-- A wire is named by its lower row and the column of its output pin.
pub record Sheet : Type 0 where
  pub library : LibraryView
  -- how many rows there are
  pub rows : ℕ
  -- the right end of the widest row
  pub right : ℕ
  -- the right end of the bar below the rows that delays the odd rows' excitation; 0 where there is none
  pub lag : ℕ
  -- how many tracks the channel above row r uses
  pub used : ℕ → ℕ
  -- a wire begins in column c of row r
  pub wired : ℕ → ℕ → Bool
  -- the column where it ends, and its track
  pub to : ℕ → ℕ → ℕ
  pub track : ℕ → ℕ → ℕ

-- A shape is named by its row, and then: a frame by its slot and kind, a pin by its column and number, and the parts
-- of a wire by the column where the wire begins. They are: up from the output pin, up to the input pin, across, and
-- the vias. The bars of the lines and what leads to them are named by steps: step 0 is the bar that delays the odd
-- rows, and step r + 1 is row r.
pub data Tag : Type 0 where
  Frame : ℕ → ℕ → CellKind → Tag
  InPin : ℕ → ℕ → ℕ → Tag
  OutPin : ℕ → ℕ → ℕ → Tag
  Lead : ℕ → Tag
  Bar : ℕ → Tag
  Rise : ℕ → ℕ → Tag
  Fall : ℕ → ℕ → Tag
  Across : ℕ → ℕ → Tag
  FromVia : ℕ → ℕ → Tag
  ToVia : ℕ → ℕ → Tag

-- the centre of a column
unfoldable pub centre : LibraryView → ℕ → ℕ
centre l column = column * l.pitch + l.pitch / 2

-- the lower edge of a row: each row below it has its height and the height of its channel
unfoldable pub edge : LibraryView → (ℕ → ℕ) → ℕ → ℕ
edge l used zero = 0
edge l used (suc r) = edge l used r + l.height + (used r + 1) * l.pitch

-- the centre of track t in the channel above row r
unfoldable pub track_centre : LibraryView → (ℕ → ℕ) → ℕ → ℕ → ℕ
track_centre l used r t = edge l used r + l.height + (t + 1) * l.pitch

-- rectangles right of and above the origin

-- an area as a rectangle
abbrev pub rect_of : Area → Rectangle
rect_of a = record { x0 = pos a.left; y0 = pos a.low; x1 = pos a.right; y1 = pos a.high }

-- a strip as wide as a wire, centred on a column
abbrev pub upright : LibraryView → ℕ → ℕ → ℕ → Area
upright l column low high =
    record { left = centre l column - l.wire / 2; low = low; right = centre l column + l.wire / 2; high = high }

-- a via, centred on a column
abbrev pub square : LibraryView → ℕ → ℕ → Area
square l column y =
    record {
      left = centre l column - l.via / 2;
      low = y - l.via / 2;
      right = centre l column + l.via / 2;
      high = y + l.via / 2;
    }

-- the metal of a wire with its bend on this height: up from an output pin, up to an input pin, and across
abbrev pub rise_area : LibraryView → ℕ → ℕ → ℕ → Area
rise_area l row column bend = upright l column (row + l.height - l.pin) (bend + l.wire / 2)

-- from the bend up to an input pin
abbrev pub fall_area : LibraryView → ℕ → ℕ → ℕ → Area
fall_area l row column bend = upright l column (bend - l.wire / 2) (row + l.pin)

-- from column to column at the height of the bend
abbrev pub across_area : LibraryView → ℕ → ℕ → ℕ → Area
across_area l from to bend = record {
  left = centre l (min from to) - l.wire / 2;
  low = bend - l.wire / 2;
  right = centre l (max from to) + l.wire / 2;
  high = bend + l.wire / 2;
}

-- the lower edge of row r
abbrev pub lower_edge : Sheet → ℕ → ℕ
lower_edge s r = edge s.library s.used r

-- the height of the bend of the wire that begins in column c
abbrev pub track_of : Sheet → ℕ → ℕ → ℕ
track_of s r c = track_centre s.library s.used r (s.track r c)

-- The excitation lines: a start or link stands left of the chip or right of it, and spans steps.

-- the line comes to the bar of this step from the right
abbrev pub turns_right : ℕ → Bool
turns_right n = nat_lt (suc n % 4) 2

-- where a part of a line stands
pub data Flank : Type 0 where
  LeftOf : Flank
  Over : Flank
  RightOf : Flank

-- the side of a step's lead
abbrev pub lead_flank : ℕ → Flank
lead_flank n = (if turns_right n then RightOf else LeftOf)

-- there is no delay
abbrev pub lags_not : ℕ → Bool
lags_not zero = true
lags_not (suc lag) = false

-- the line begins at this step: at the delay bar or the lowest row, and where there is no such bar at the second row
abbrev pub begins : ℕ → ℕ → Bool
begins lag zero = true
begins lag (suc zero) = true
begins lag (suc (suc zero)) = lags_not lag
begins lag (suc (suc (suc n))) = false

-- the step where a step's lead begins: two steps below, where the line was last
abbrev pub lead_first : ℕ → ℕ → ℕ
lead_first lag zero = 0
lead_first lag (suc zero) = 1
lead_first lag (suc (suc n)) = (if begins lag (suc (suc n)) then suc (suc n) else n)

-- the first lead of each line is a start, and the others are links
abbrev pub lead_use : ℕ → ℕ → ℕ
lead_use lag n = (if begins lag n then START else LINK)

-- the rectangle on a flank of a bar with this right end, from one height to another
abbrev pub flank_rect : LibraryView → ℕ → Flank → ℤ → ℤ → Rectangle
flank_rect l right LeftOf low high = record { x0 = neg_ℤ (pos (2 * l.pitch)); y0 = low; x1 = pos 0; y1 = high }
flank_rect l right Over low high = record { x0 = pos 0; y0 = low; x1 = pos right; y1 = high }
flank_rect l right RightOf low high =
    record { x0 = pos right; y0 = low; x1 = pos (right + 2 * l.pitch); y1 = high }

-- the right end of a step's bar
abbrev pub step_right : Sheet → ℕ → ℕ
step_right s zero = s.lag
step_right s (suc r) = s.right

-- the lower edge of a step's bar: the delay bar lies a row's height below the rows
abbrev pub step_low : Sheet → ℕ → ℤ
step_low s zero = neg_ℤ (pos (2 * s.library.height))
step_low s (suc r) = pos (lower_edge s r)

-- and its upper edge
abbrev pub step_high : Sheet → ℕ → ℤ
step_high s zero = neg_ℤ (pos s.library.height)
step_high s (suc r) = pos (lower_edge s r + s.library.height)

-- the rectangle on a flank of step n's bar, from step a to step b
abbrev pub line_rect : Sheet → ℕ → Flank → ℕ → ℕ → Rectangle
line_rect s n flank a b = flank_rect s.library (step_right s n) flank (step_low s a) (step_high s b)

-- the layer of a shape
abbrev pub layer_of : Tag → ℕ
layer_of (Frame r slot kind) = FRAME
layer_of (InPin r c i) = INPUT_PIN
layer_of (OutPin r c i) = OUTPUT_PIN
layer_of (Lead n) = EVEN_LINE + suc n % 2
layer_of (Bar n) = EVEN_LINE + suc n % 2
layer_of (Rise r c) = M1
layer_of (Fall r c) = M1
layer_of (Across r c) = M2
layer_of (FromVia r c) = VIA
layer_of (ToVia r c) = VIA

-- its datatype
abbrev pub datatype_of : Sheet → Tag → ℕ
datatype_of s (Frame r slot kind) = number_of kind
datatype_of s (InPin r c i) = i
datatype_of s (OutPin r c i) = i
datatype_of s (Lead n) = lead_use s.lag n
datatype_of s (Bar n) = BAR
datatype_of s (Rise r c) = 0
datatype_of s (Fall r c) = 0
datatype_of s (Across r c) = 0
datatype_of s (FromVia r c) = 0
datatype_of s (ToVia r c) = 0

-- its rectangle
abbrev pub place_of : Sheet → Tag → Rectangle
place_of s (Frame r slot kind) = rect_of (record {
  left = slot * (s.library.columns * s.library.pitch);
  low = lower_edge s r;
  right = (slot + slots_of kind) * (s.library.columns * s.library.pitch);
  high = lower_edge s r + s.library.height;
})
place_of s (InPin r c i) = rect_of (upright s.library c (lower_edge s r) (lower_edge s r + s.library.pin))
place_of s (OutPin r c i) = rect_of (upright s.library c (lower_edge s r + s.library.height - s.library.pin)
    (lower_edge s r + s.library.height))
place_of s (Lead n) = line_rect s n (lead_flank n) (lead_first s.lag n) n
place_of s (Bar n) = line_rect s n Over n n
place_of s (Rise r c) = rect_of (rise_area s.library (lower_edge s r) c (track_of s r c))
place_of s (Fall r c) = rect_of (fall_area s.library (lower_edge s (suc r)) (s.to r c) (track_of s r c))
place_of s (Across r c) = rect_of (across_area s.library c (s.to r c) (track_of s r c))
place_of s (FromVia r c) = rect_of (square s.library c (track_of s r c))
place_of s (ToVia r c) = rect_of (square s.library (s.to r c) (track_of s r c))

-- the part of it right of the origin and above
abbrev pub area : Sheet → Tag → Area
area s tag = let r = place_of s tag in let x = positive_part r.x0 in let y = positive_part r.y0 in
    record { left = x; low = y; right = positive_part r.x1; high = positive_part r.y1 }

-- the shape of a tag
abbrev pub shape_of : Sheet → Tag → Shape
shape_of s tag = record { layer = layer_of tag; datatype = datatype_of s tag; rect = place_of s tag }
