-- Placements: rectangles, points and sets of squares that are mirrored, turned and moved (GDSII Stream Format manual: a
-- reference is mirrored at the x axis, then turned counterclockwise, then moved).
use Rattle.std.specs.Prelude.{ℕ, zero, suc, List, [], ◌∷◌, ◌++◌, Bool, true, false, ℤ, pos, ◌+ℤ◌, ◌-ℤ◌, neg_ℤ}
use Rattle.geom.specs.Rectangle.{Rectangle, moved}
use Rattle.geom.specs.declared.shapes.Shape.{Shape}
use Rattle.geom.specs.declared.shapes.Label.{Label}
use Rattle.poly_cut.specs.declared.layout.Point.{Point}
use Rattle.poly_cut.specs.declared.layout.Turn.{Turn}
use Rattle.poly_cut.specs.declared.layout.Grid.{Grid}
use Rattle.poly_cut.specs.Cuts.{box}

-- a point, from its coordinates
abbrev pub point : ℤ → ℤ → Point
point x y = record { x = x; y = y }

-- a step, so many times
abbrev pub repeated : {A : Type 0} → ℕ → (A → A) → A → A
repeated zero f a = a
repeated (suc n) f a = f (repeated n f a)

-- a step, where it is asked for
abbrev pub asked : {A : Type 0} → Bool → (A → A) → A → A
asked true f a = f a
asked false f a = a

-- ---- rectangles and points: from (x, y) to (x, -y), and by a quarter to (-y, x)

-- a rectangle, mirrored at the x axis
abbrev pub mirrored : Rectangle → Rectangle
mirrored r = box r.x0 (neg_ℤ r.y1) r.x1 (neg_ℤ r.y0)

-- a rectangle, turned by a quarter counterclockwise
abbrev pub quarter : Rectangle → Rectangle
quarter r = box (neg_ℤ r.y1) r.x0 (neg_ℤ r.y0) r.x1

-- a rectangle, mirrored where that is asked for, and then turned by each quarter
abbrev pub turned : Turn → Rectangle → Rectangle
turned t r = repeated t.quarter quarter (asked t.mirror mirrored r)

-- so a point: mirrored
abbrev pub mirrored_point : Point → Point
mirrored_point p = point p.x (neg_ℤ p.y)

-- by a quarter
abbrev pub quarter_point : Point → Point
quarter_point p = point (neg_ℤ p.y) p.x

-- and by a turn
abbrev pub turned_point : Turn → Point → Point
turned_point t p = repeated t.quarter quarter_point (asked t.mirror mirrored_point p)

-- the sum of two vectors
abbrev pub added : Point → Point → Point
added p q = point (p.x +ℤ q.x) (p.y +ℤ q.y)

-- ---- sets of squares: that of (i, j) goes to (i, -j - 1), and by a quarter to (-j - 1, i)

-- the unit interval from i goes to the one from here
abbrev pub opposite : ℤ → ℤ
opposite i = neg_ℤ i -ℤ pos 1

-- so a set of squares: mirrored
abbrev pub mirrored_set : (ℤ → ℤ → Bool) → ℤ → ℤ → Bool
mirrored_set S i j = S i (opposite j)

-- by a quarter
abbrev pub quarter_set : (ℤ → ℤ → Bool) → ℤ → ℤ → Bool
quarter_set S i j = S j (opposite i)

-- by a turn
abbrev pub turned_set : Turn → (ℤ → ℤ → Bool) → ℤ → ℤ → Bool
turned_set t S = repeated t.quarter quarter_set (asked t.mirror mirrored_set S)

-- and moved by a vector
abbrev pub moved_set : Point → (ℤ → ℤ → Bool) → ℤ → ℤ → Bool
moved_set p S i j = S (i -ℤ p.x) (j -ℤ p.y)

-- ---- what a placement makes of a shape and of a label

-- a shape, turned and then moved
abbrev pub placed_shape : Turn → Point → Shape → Shape
placed_shape t p s = record { layer = s.layer; datatype = s.datatype; rect = moved p.x p.y (turned t s.rect) }

-- a label, at another point
abbrev pub label_at : Label → Point → Label
label_at l p = record { layer = l.layer; x = p.x; y = p.y; text = l.text }

-- a label, its point turned and then moved
abbrev pub placed_label : Turn → Point → Label → Label
placed_label t p l = label_at l (added (turned_point t (point l.x l.y)) p)

-- ---- the points of a grid: row by row, and each from its first column on

-- so many points, from one on, a step apart
abbrev pub row_points : ℕ → Point → Point → List Point
row_points zero step p = []
row_points (suc n) step p = p ∷ row_points n step (added p step)

-- so many rows, from a point on
abbrev pub grid_rows : ℕ → Grid → Point → List Point
grid_rows zero g p = []
grid_rows (suc n) g p = row_points g.columns g.column_step p ++ grid_rows n g (added p g.row_step)

-- all points of a grid that begins at a point
abbrev pub grid_points : Point → Grid → List Point
grid_points p g = grid_rows g.rows g p
