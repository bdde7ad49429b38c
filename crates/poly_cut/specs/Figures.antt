-- Figures: their squares, their rectangles, and which are drawn.
use Rattle.std.specs.Prelude.{◌≡◌, ◌≢◌, ◌⊎◌, ◌<◌, ◌≤◌, ◌^◌, List, [], ◌∷◌, Bool, true, false, ℤ, All, FitsSigned}
use Rattle.std.specs.Int.{w32}
use Rattle.geom.specs.Rectangle.{Rectangle}
use Rattle.poly_cut.specs.declared.layout.Point.{Point}
use Rattle.poly_cut.specs.declared.layout.Figure.{Figure}
use Rattle.poly_cut.specs.declared.layout.Figure.TheVariants.{Ring, Path}
use Rattle.poly_cut.specs.Squares.{union_holds}
use Rattle.poly_cut.specs.Rings.{ring_holds, HasSquare}
use Rattle.poly_cut.specs.Cuts.{ring_cut}
use Rattle.poly_cut.specs.Paths.{path_cut}

-- the rectangles of a figure
abbrev pub cut_of : Figure → List Rectangle
cut_of (Ring ps) = ring_cut ps
cut_of (Path extended half ps) = path_cut extended half ps

-- the squares of a figure: those inside a ring, and those of a path's segments
abbrev pub figure_holds : Figure → ℤ → ℤ → Bool
figure_holds (Ring ps) i j = ring_holds ps i j
figure_holds (Path extended half ps) i j = union_holds (path_cut extended half ps) i j

-- q is beside p or above or below it, or both are one point
abbrev pub IsStep : Point → Point → Type 0
IsStep p q = (p.x ≡ q.x) ⊎ (p.y ≡ q.y)

-- the steps from p on end at the last of these points, z
abbrev pub StepsTo : Point → Point → List Point → Type 0
StepsTo z p [] = p ≡ z
StepsTo z p (q ∷ qs) = IsStep p q × StepsTo z q qs

-- back to the first point by steps
abbrev pub IsRound : List Point → Type 0
IsRound [] = ⊥
IsRound (p ∷ ps) = StepsTo p p ps

-- the points go along x and along y in turn, along x first if so, and never stand still
abbrev pub GoesInTurn : Bool → Point → List Point → Type 0
GoesInTurn along_x p [] = Unit {0}
GoesInTurn true p (q ∷ qs) = (p.x ≢ q.x) × (p.y ≡ q.y) × GoesInTurn false q qs
GoesInTurn false p (q ∷ qs) = (p.x ≡ q.x) × (p.y ≢ q.y) × GoesInTurn true q qs

-- at least one segment, and each turns from the one before it
abbrev pub IsBent : List Point → Type 0
IsBent [] = ⊥
IsBent (p ∷ []) = ⊥
IsBent (p ∷ q ∷ qs) = GoesInTurn true p (q ∷ qs) ⊎ GoesInTurn false p (q ∷ qs)

-- a ring with a square inside, or a path of some width
abbrev pub IsFigure : Figure → Type 0
IsFigure (Ring ps) = IsRound ps × HasSquare ps
IsFigure (Path extended half ps) = (0 < half) × (half ≤ 2 ^ 30) × IsBent ps

-- a point whose coordinates are signed numbers of four bytes
abbrev pub IsNarrow : Point → Type 0
IsNarrow p = FitsSigned w32 p.x × FitsSigned w32 p.y

-- the points of a figure
abbrev pub points_of : Figure → List Point
points_of (Ring ps) = ps
points_of (Path extended half ps) = ps

-- a figure whose points have coordinates of four bytes
pub record IsDrawn (f : Figure) : Type 0 where
  pub figure : IsFigure f
  pub narrow : All IsNarrow (points_of f)
