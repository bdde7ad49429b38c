-- The first chip, changed so that it breaks a rule of geometry or comes up to its bound.
use Rattle.std.specs.Prelude.{ℕ, ◌+◌, pos, [], ◌∷◌}
use Rattle.geom.specs.declared.shapes.Flat.{Flat}
use Rattle.geom.specs.FirstChip.{first_flat, drawn, labelled}
use Rattle.layout_rules.specs.Limits.{Limits}
use Rattle.example_faulty_chips.specs.Changes.{with_shape, and_shape, and_label}

-- shape 5, lower metal from the lower cell's output, ends at this x: it is 1000 wide where that is 5500
unfoldable pub with_wire_to : ℕ → Flat
with_wire_to x1 = with_shape 5 (drawn 10 0 (pos 4500) (pos 9000) (pos x1) (pos 12500)) first_flat

-- upper metal beside shape 7, which ends at x = 5500
unfoldable pub with_neighbour_at : ℕ → Flat
with_neighbour_at x0 = and_shape (drawn 12 0 (pos x0) (pos 11500) (pos (x0 + 1000)) (pos 12500)) first_flat

-- the first via stands between these two x
-- from 4700 to 5300 it is 600 wide, and the metal encloses it by 200 on each side
unfoldable pub with_via_at : ℕ → ℕ → Flat
with_via_at x0 x1 = with_shape 8 (drawn 11 0 (pos x0) (pos 11700) (pos x1) (pos 12300)) first_flat

-- upper metal over the lower cell, whose frame ends at y = 10000
unfoldable pub with_metal_from : ℕ → Flat
with_metal_from y0 = and_shape (drawn 12 0 (pos 6600) (pos y0) (pos 7600) (pos 11000)) first_flat

-- the output pin of the upper cell, which ends at y = 24000, begins at this y
unfoldable pub with_pin_from : ℕ → Flat
with_pin_from y0 = with_shape 12 (drawn 22 0 (pos 4500) (pos y0) (pos 5500) (pos 24000)) first_flat

-- a second buffer in the lower row, which begins at this x with all that belongs to it
-- the bar over the row ends where that buffer does
unfoldable pub with_buffer_at : ℕ → Flat
with_buffer_at x =
    and_label (labelled (pos (x + 3000)) (pos 500) (73 ∷ 49 ∷ []))
    (and_shape (drawn 22 0 (pos (x + 4500)) (pos 9000) (pos (x + 5500)) (pos 10000))
    (and_shape (drawn 21 0 (pos (x + 2500)) (pos 0) (pos (x + 3500)) (pos 1000))
    (and_shape (drawn 20 1 (pos x) (pos 0) (pos (x + 8000)) (pos 10000))
    (with_shape 4 (drawn 14 0 (pos 0) (pos 0) (pos (x + 8000)) (pos 10000)) first_flat))))

-- that buffer stands beside the first one, and is a nanometre lower
unfoldable pub with_low_buffer : Flat
with_low_buffer =
    with_shape 17 (drawn 22 0 (pos 12500) (pos 8999) (pos 13500) (pos 9999))
    (with_shape 15 (drawn 20 1 (pos 8000) (pos 0) (pos 16000) (pos 9999)) (with_buffer_at 8000))

-- the first chip's limits with another length
abbrev pub with_limit : ℕ → Limits
with_limit n = record { wire = 1000; space = 1000; via = 600; enclose = 200; pin = 1000; limit = n }
