-- Rings that are rectangles.
use Rattle.std.specs.Prelude.{◌≡◌, ℤ, Option, Some, None}
use Rattle.geom.specs.Rectangle.{Rectangle}
use Rattle.poly_cut.specs.declared.layout.Point.{Point}
use Rattle.poly_cut.specs.Cuts.{box, lesser, greater}

-- along one axis the first two points and the last two have one place each in the other, and so have those between
pub record AreCorners (a b c d a' b' c' d' : ℤ) : Type 0 where
  pub first : a' ≡ b'
  pub second : b ≡ c
  pub third : c' ≡ d'
  pub fourth : d ≡ a

-- the rectangle of two opposite corners, which differ in both coordinates
pub record IsBox (a c : Point) (r : Rectangle) : Type 0 where
  pub wide : a.x ≡ c.x → ⊥
  pub high : a.y ≡ c.y → ⊥
  pub is : r ≡ box (lesser a.x c.x) (lesser a.y c.y) (greater a.x c.x) (greater a.y c.y)

abbrev pub IsBoxOf : Point → Point → Option Rectangle → Type 0
IsBoxOf a c None = Unit {0}
IsBoxOf a c (Some r) = IsBox a c r
