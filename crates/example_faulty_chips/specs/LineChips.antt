-- The first chip, changed so that its rows are not excited.
use Rattle.std.specs.Prelude.{pos, negsuc}
use Rattle.geom.specs.declared.shapes.Flat.{Flat}
use Rattle.geom.specs.FirstChip.{first_flat, drawn}
use Rattle.layout_rules.specs.FaultyChips.{without_starts}
use Rattle.example_faulty_chips.specs.Changes.{with_shape, and_shape}

-- the bar over the lower cell, shape 4, is no bar, link or start
unfoldable pub with_unknown_part : Flat
with_unknown_part = with_shape 4 (drawn 14 3 (pos 0) (pos 0) (pos 8000) (pos 10000)) first_flat

-- no starts, and what was the bar over the upper cell is a link of the line over the even rows
unfoldable pub with_bars_on_one_layer : Flat
with_bars_on_one_layer = with_shape 12 (drawn 14 1 (pos 0) (pos 14000) (pos 8000) (pos 24000)) without_starts

-- the line over the even rows has a start at its other end too
unfoldable pub with_second_start : Flat
with_second_start = and_shape (drawn 14 2 (pos 8000) (pos 0) (pos 12000) (pos 10000)) first_flat

-- the start of the line over the even rows ends a nanometre before its bar
unfoldable pub with_short_start : Flat
with_short_start = with_shape 3 (drawn 14 2 (negsuc 3999) (pos 0) (negsuc 0) (pos 10000)) first_flat

-- two bars and a link between them, far from the start of their layer
unfoldable pub with_cut_off_line : Flat
with_cut_off_line =
    and_shape (drawn 14 1 (pos 28000) (pos 0) (pos 32000) (pos 24000))
    (and_shape (drawn 14 0 (pos 20000) (pos 14000) (pos 28000) (pos 24000))
    (and_shape (drawn 14 0 (pos 20000) (pos 0) (pos 28000) (pos 10000)) first_flat))

-- the start of the line over the even rows comes to its bar from below
unfoldable pub with_start_below : Flat
with_start_below = with_shape 3 (drawn 14 2 (pos 0) (negsuc 3999) (pos 8000) (pos 0)) first_flat

-- the bar over the upper cell ends a nanometre before the cell
unfoldable pub with_short_bar : Flat
with_short_bar = with_shape 14 (drawn 15 0 (pos 0) (pos 14000) (pos 7999) (pos 24000)) first_flat

-- the line over the even rows comes from the right
unfoldable pub with_start_at_right : Flat
with_start_at_right = with_shape 3 (drawn 14 2 (pos 8000) (pos 0) (pos 12000) (pos 10000)) first_flat
