-- A path as one rectangle for each segment.
use Rattle.std.specs.Prelude.{ℕ, List, [], ◌∷◌, Bool, true, false, ◌==◌, ◌&&◌, ℤ, pos, ◌+ℤ◌, ◌-ℤ◌, int_le, int_lt}
use Rattle.geom.specs.Rectangle.{Rectangle}
use Rattle.poly_cut.specs.declared.layout.Point.{Point}
use Rattle.poly_cut.specs.Cuts.{box}

-- from a point, and so far before it, to one right of it or above it, and so far past that
abbrev pub stroke : ℤ → Point → ℤ → Point → ℤ → Rectangle
stroke half low under high over = elim (int_lt low.y high.y) [
  | true ↦ box (low.x -ℤ half) (low.y -ℤ under) (high.x +ℤ half) (high.y +ℤ over)
  | false ↦ box (low.x -ℤ under) (low.y -ℤ half) (high.x +ℤ over) (high.y +ℤ half)
]

-- the segment from p to q, which goes so far past p and so far past q
abbrev pub segment : ℤ → ℤ → ℤ → Point → Point → Rectangle
segment half before behind p q = elim (int_le p.x q.x && int_le p.y q.y) [
  | true ↦ stroke half p before q behind
  | false ↦ stroke half q behind p before
]

-- how far a segment goes past its second point, which is the path's end or has these points behind it
abbrev pub past : ℤ → ℤ → List Point → ℤ
past half end [] = end
past half end (r ∷ rs) = half

-- the segments from p on, the first of which goes so far past p
abbrev pub segments : ℤ → ℤ → ℤ → Point → List Point → List Rectangle
segments half end before p [] = []
segments half end before p (q ∷ qs) = segment half before (past half end qs) p q ∷ segments half end half q qs

-- how far a path goes past its ends, half its width being this
abbrev pub end_of : Bool → ℕ → ℤ
end_of extended half = elim extended [ true ↦ pos half | false ↦ pos 0 ]

-- the rectangles of a path's segments, in order
abbrev pub path_cut : Bool → ℕ → List Point → List Rectangle
path_cut extended half [] = []
path_cut extended half (p ∷ ps) = segments (pos half) (end_of extended half) (end_of extended half) p ps

-- how far the segment of this number, from 1 on, goes past its first point
abbrev pub before_of : ℕ → Bool → ℕ → ℤ
before_of half extended number = elim (number == 1) [ true ↦ end_of extended half | false ↦ pos half ]
