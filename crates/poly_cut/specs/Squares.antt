-- Sets of unit squares, each named by its lower left corner (i, j).
use Rattle.std.specs.Prelude.{List, [], ◌∷◌, Bool, true, false, not, ◌&&◌, ◌||◌, ℤ, int_le, int_lt}
use Rattle.geom.specs.Rectangle.{Rectangle}

-- the square's left edge lies from a on and before b
abbrev pub from_before : ℤ → ℤ → ℤ → Bool
from_before a b i = int_le a i && int_lt i b

-- a rectangle holds the squares from its left and lower edges up to its right and upper ones
abbrev pub holds : Rectangle → ℤ → ℤ → Bool
holds r i j = from_before r.x0 r.x1 i && from_before r.y0 r.y1 j

-- the union of rectangles holds what some of them holds
abbrev pub union_holds : List Rectangle → ℤ → ℤ → Bool
union_holds [] i j = false
union_holds (r ∷ rs) i j = holds r i j || union_holds rs i j

-- one of the two holds, and not the other
abbrev pub differ : Bool → Bool → Bool
differ true b = not b
differ false b = b
