-- How many elements the top structure of a drawing has.
use Rattle.std.specs.Prelude.{◌≡◌, ℕ, zero, suc, ◌+◌, ◌*◌, ◌<◌, length}
use Rattle.rowed.specs.Counts.{cells_in, wires_in}
use Rattle.rowed.specs.Limits.{element_limit}
use Rattle.rowed.specs.PlacedNets.{PlacedView}
use Rattle.layout_make.specs.declared.drawing.DrawRefusal.{DrawRefusal}
use Rattle.layout_make.specs.declared.drawing.DrawRefusal.TheVariants.{TooManyElements, Memory}

-- a start and a bar for a delay
abbrev pub lag_count : ℕ → ℕ
lag_count zero = 0
lag_count (suc lag) = 2

-- a reference for each cell, lead and bar of each row, five shapes for each wire, the labels, and what delays
abbrev pub element_number : PlacedView → ℕ
element_number p = cells_in p.net.rows + 2 * length p.net.rows + 5 * wires_in p.net.rows + p.net.inputs + p.net.outputs
    + lag_count p.lag

-- only a net with too many elements is refused for their number
abbrev pub RefusesSize : PlacedView → DrawRefusal → Type 0
RefusesSize p (TooManyElements count) = (count ≡ element_number p) × (element_limit < count)
RefusesSize p Memory = Unit {0}
