-- How far a wire may go: the length that its limit leaves for it, and the tracks of its channel.
use Rattle.std.specs.Prelude.{ℕ, ◌+◌, ◌-◌, ◌*◌, ◌/◌, min}
use Rattle.cell_library.specs.Library.{LibraryView}

-- the width of a slot
abbrev pub slot_width_of : LibraryView → ℕ
slot_width_of l = l.columns * l.pitch

-- what a wire takes of its limit before it goes aside: the height of the channel, and its ends in the two pins
abbrev pub fixed_length_of : LibraryView → ℕ
fixed_length_of l = (l.capacity + 1) * l.pitch + 2 * l.pin + 2 * l.wire

-- how many slots the rest of the limit spans; none where nothing is left
abbrev pub length_reach_of : LibraryView → ℕ
length_reach_of l = (l.limit - fixed_length_of l) / slot_width_of l

-- the reach: wires that move fewer slots than this are short enough, and never fill their channel
abbrev pub reach_of : LibraryView → ℕ
reach_of l = min (length_reach_of l) (l.capacity / 2)
