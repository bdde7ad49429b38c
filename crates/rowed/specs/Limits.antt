-- How large a chip may be. These are the plan's own limits; `src/limits.rt` has the same numbers for code.
use Rattle.std.specs.Prelude.{ℕ, ◌*◌, ◌<◌, ◌≤◌}

-- how many cells a chip may have
abbrev pub cell_limit : ℕ
cell_limit = 2000000

-- how many elements the top structure of its layout may have
abbrev pub element_limit : ℕ
element_limit = 2000000

-- every slot that a cell takes has a lower number
abbrev pub slot_limit : ℕ
slot_limit = 2147483647

-- how wide a row may be, in nanometres
abbrev pub width_limit : ℕ
width_limit = 2000000000

-- how high the rows and their channels may be, in nanometres
abbrev pub height_limit : ℕ
height_limit = 2147483647

-- a span keeps the limit of width, with slots of some width in nanometres, or it passes the limit
abbrev pub KeepsWidth : ℕ → ℕ → Type 0
KeepsWidth span slot_width = span * slot_width ≤ width_limit

abbrev pub PassesWidth : ℕ → ℕ → Type 0
PassesWidth span slot_width = width_limit < span * slot_width
