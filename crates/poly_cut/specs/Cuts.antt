-- A ring cut into rectangles: into slabs at the y of its points, and each slab into its greatest intervals.
use Rattle.std.specs.Prelude.{List, [], ◌∷◌, ◌++◌, Bool, true, false, ◌&&◌, ℤ, int_le}
use Rattle.std.specs.Ordering.{int_eq, int_cmp}
use Rattle.std.specs.declared.cmp.Ordering.TheVariants.{Less, Equal, Greater}
use Rattle.geom.specs.Rectangle.{Rectangle}
use Rattle.poly_cut.specs.declared.layout.Point.{Point}
use Rattle.poly_cut.specs.Rings.{Edge, edges, covers}

-- a rectangle, from its left, lower, right and upper edges
abbrev pub box : ℤ → ℤ → ℤ → ℤ → Rectangle
box x0 y0 x1 y1 = record { x0 = x0; y0 = y0; x1 = x1; y1 = y1 }

-- the lesser of two numbers
abbrev pub lesser : ℤ → ℤ → ℤ
lesser a b = elim (int_le a b) [ true ↦ a | false ↦ b ]

-- the greater of two numbers
abbrev pub greater : ℤ → ℤ → ℤ
greater a b = elim (int_le a b) [ true ↦ b | false ↦ a ]

-- rising numbers with x among them where it was not, and without it where it was
abbrev pub toggled : ℤ → List ℤ → List ℤ
toggled x [] = x ∷ []
toggled x (w ∷ ws) = elim (int_cmp x w) [ Less ↦ x ∷ w ∷ ws | Equal ↦ ws | Greater ↦ w ∷ toggled x ws ]

-- the walls of the row from j to j + 1, rising: each x at which an odd number of edges cover it
abbrev pub walls : List Edge → ℤ → List ℤ
walls [] j = []
walls (e ∷ es) j = elim (covers e j) [ true ↦ toggled e.x (walls es j) | false ↦ walls es j ]

-- rising numbers with y among them
abbrev pub placed : ℤ → List ℤ → List ℤ
placed y [] = y ∷ []
placed y (l ∷ ls) = elim (int_cmp y l) [ Less ↦ y ∷ l ∷ ls | Equal ↦ l ∷ ls | Greater ↦ l ∷ placed y ls ]

-- the y of the points, rising, each once
abbrev pub levels : List Point → List ℤ
levels [] = []
levels (p ∷ ps) = placed p.y (levels ps)

-- the rectangles between a first wall and a second, a third and a fourth, and so on
abbrev pub between : ℤ → ℤ → List ℤ → List Rectangle
between y0 y1 [] = []
between y0 y1 (a ∷ []) = []
between y0 y1 (a ∷ b ∷ ws) = box a y0 b y1 ∷ between y0 y1 ws

-- the rectangles of the slabs between levels, from below, and in each from the left
abbrev pub slabs_from : List Edge → ℤ → List ℤ → List Rectangle
slabs_from es y [] = []
slabs_from es y (z ∷ zs) = between y z (walls es y) ++ slabs_from es z zs

-- the rectangles of all slabs of edges between levels
abbrev pub slabs : List Edge → List ℤ → List Rectangle
slabs es [] = []
slabs es (y ∷ ys) = slabs_from es y ys

-- t stands on r, with the same sides
abbrev pub stands_on : Rectangle → Rectangle → Bool
stands_on r t = int_eq r.x0 t.x0 && (int_eq r.x1 t.x1 && int_eq r.y1 t.y0)

-- the rectangles with t: one with that on which it stands, or else the last
abbrev pub joined : List Rectangle → Rectangle → List Rectangle
joined [] t = t ∷ []
joined (r ∷ rs) t = elim (stands_on r t) [ true ↦ box r.x0 r.y0 r.x1 t.y1 ∷ rs | false ↦ r ∷ joined rs t ]

-- the rectangles with these, one after another
abbrev pub all_joined : List Rectangle → List Rectangle → List Rectangle
all_joined rs [] = rs
all_joined rs (t ∷ ts) = all_joined (joined rs t) ts

-- the cut of a ring, by lower edge and then by left edge
unfoldable pub ring_cut : List Point → List Rectangle
ring_cut ps = all_joined [] (slabs (edges ps) (levels ps))
