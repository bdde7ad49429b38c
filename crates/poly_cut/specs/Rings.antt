-- The squares inside a ring, by its vertical edges (the even-odd rule).
use Rattle.std.specs.Prelude.{◌≡◌, List, [], ◌∷◌, Bool, true, false, ◌&&◌, ℤ, int_le}
use Rattle.poly_cut.specs.Squares.{differ}
use Rattle.poly_cut.specs.declared.layout.Point.{Point}

-- the step from one point of a ring to the next: along y at this x, or along x and then with equal ends
pub record Edge : Type 0 where
  pub x : ℤ
  pub start : ℤ
  pub stop : ℤ

-- the edges from p on
abbrev pub edges_from : Point → List Point → List Edge
edges_from p [] = []
edges_from p (q ∷ qs) = record { x = p.x; start = p.y; stop = q.y } ∷ edges_from q qs

-- the edges of a ring, whose last point is its first one again
abbrev pub edges : List Point → List Edge
edges [] = []
edges (p ∷ ps) = edges_from p ps

-- the edge covers j to j + 1: one of its ends is at most j, and the other is not
abbrev pub covers : Edge → ℤ → Bool
covers e j = differ (int_le e.start j) (int_le e.stop j)

-- an odd number of the edges stand at most at i and cover j to j + 1
abbrev pub odd_left : List Edge → ℤ → ℤ → Bool
odd_left [] i j = false
odd_left (e ∷ es) i j = differ (int_le e.x i && covers e j) (odd_left es i j)

-- the squares inside: an odd number of edges stand to their left
abbrev pub ring_holds : List Point → ℤ → ℤ → Bool
ring_holds ps i j = odd_left (edges ps) i j

-- some square is inside
pub record HasSquare (ps : List Point) : Type 0 where
  pub i : ℤ
  pub j : ℤ
  pub inside : ring_holds ps i j ≡ true
