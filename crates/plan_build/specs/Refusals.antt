-- Which netlists have no chip with a library, each limit before those that are tested after it.
use Rattle.std.specs.Prelude.{◌≡◌, ℕ, ◌<◌, ◌≤◌, ◌⊎◌, length, Some, None}
use Rattle.blif_read.specs.Parts.{NetView}
use Rattle.aq_base.specs.declared.lists.Memory.{Memory as NoMemory}
use Rattle.circuit.specs.declared.pass.ThenRefusal.{ThenRefusal}
use Rattle.circuit.specs.declared.pass.ThenRefusal.TheVariants.{First, Second}
use Rattle.rowed.specs.PlacedNets.{placed_rows}
use Rattle.level_balance.specs.Counts.{capped}
use Rattle.level_balance.specs.declared.pass.LevelRefusal.{LevelRefusal}
use Rattle.level_balance.specs.declared.pass.LevelRefusal.TheVariants as levels
use Rattle.rowed.specs.Limits.{cell_limit, KeepsWidth, PassesWidth, height_limit}
use Rattle.row_place.specs.declared.pass.PlaceRefusal.{PlaceRefusal}
use Rattle.row_place.specs.declared.pass.PlaceRefusal.TheVariants as places
use Rattle.repeater_rows.specs.Passes.{cells_past}
use Rattle.repeater_rows.specs.declared.pass.RepeatRefusal.{RepeatRefusal}
use Rattle.repeater_rows.specs.declared.pass.RepeatRefusal.TheVariants as repeats
use Rattle.cell_library.specs.Library.{LibraryView}
use Rattle.cell_library.specs.Reach.{slot_width_of}
use Rattle.plan_build.specs.Plans.{chip_of, cells_before, span_before, rows_height}
use Rattle.plan_build.specs.declared.refusal.PlanRefusal.{PlanRefusal}
use Rattle.plan_build.specs.declared.refusal.PlanRefusal.TheVariants.{Slots, Rows, Cells, Memory}

-- the refusal of levels: too many cells, or want of memory
abbrev pub of_levels : LevelRefusal → PlanRefusal
of_levels (levels.TooManyCells cells) = Cells cells
of_levels levels.Memory = Memory

-- the refusal of placement: the span of the widest row in slots, or want of memory
abbrev pub of_places : PlaceRefusal → PlanRefusal
of_places (places.TooWide span) = Slots span
of_places places.Memory = Memory

-- the refusal of repeaters: too many cells with them, too many rows for the height limit, or want of memory
abbrev pub of_repeats : RepeatRefusal → PlanRefusal
of_repeats (repeats.TooManyCells cells) = Cells cells
of_repeats (repeats.TooTall rows) = Rows rows
of_repeats repeats.Memory = Memory

-- the refusal of the pass at fault, taken out of the nesting of the four passes
abbrev pub refusal_of : ThenRefusal (ThenRefusal (ThenRefusal NoMemory LevelRefusal) PlaceRefusal) RepeatRefusal
    → PlanRefusal
refusal_of (First (First (First refusal))) = Memory
refusal_of (First (First (Second refusal))) = of_levels refusal
refusal_of (First (Second refusal)) = of_places refusal
refusal_of (Second refusal) = of_repeats refusal

-- the rows have too many cells before they get repeaters: this many, or the greatest number of 64 bits for more
abbrev pub HasManyBefore : LibraryView → NetView → ℕ → Type 0
HasManyBefore l net cells = (cell_limit < cells_before l net) × (cells ≡ capped (cells_before l net))

-- the cells before repeaters and the width keep their limits, but with repeaters there are too many cells
abbrev pub HasMany : LibraryView → NetView → ℕ → Type 0
HasMany l net cells =
    (cells_before l net ≤ cell_limit) × KeepsWidth (span_before l net) (slot_width_of l)
    × (cells_past 0 (placed_rows (chip_of l net)) ≡ Some cells)

-- what the passes refuse, and with which number
abbrev pub Refuses : LibraryView → NetView → PlanRefusal → Type 0
Refuses l net (Cells cells) = HasManyBefore l net cells ⊎ HasMany l net cells
Refuses l net (Slots span) =
    (cells_before l net ≤ cell_limit) × PassesWidth (span_before l net) (slot_width_of l) × (span ≡ span_before l net)
Refuses l net (Rows rows) =
    (cells_before l net ≤ cell_limit) × KeepsWidth (span_before l net) (slot_width_of l)
    × (cells_past 0 (placed_rows (chip_of l net)) ≡ None)
    × (height_limit < rows_height l rows) × (rows ≡ length (chip_of l net).net.rows)
Refuses l net Memory = Unit {0}
