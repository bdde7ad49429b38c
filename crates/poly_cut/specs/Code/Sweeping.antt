-- What a sweep over a ring keeps, from below.
use Rattle.std.specs.Prelude.{◌≡◌, ℕ, ◌<◌, ◌≤◌, List, [], ◌∷◌, Some, None, true, false, slice_get, length, ℤ, ◌<ℤ◌}
use Rattle.std.specs.Prelude.{◌≤ℤ◌, Option}
use Rattle.std.specs.Ordering.{int_cmp, int_eq}
use Rattle.std.specs.BTreeMap.{BTreeMap}
use Rattle.std.specs.BTreeMap as tree
use Rattle.geom.specs.Rectangle.{Rectangle}
use Rattle.poly_cut.specs.declared.ends.End.{End}
use Rattle.poly_cut.specs.Rings.{Edge}
use Rattle.poly_cut.specs.Cuts.{stands_on, placed}

-- rising, from above a
abbrev pub Above : ℤ → List ℤ → Type 0
Above a [] = Unit {0}
Above a (w ∷ ws) = (a <ℤ w) × Above w ws

-- rising
abbrev pub Rising : List ℤ → Type 0
Rising [] = Unit {0}
Rising (w ∷ ws) = Above w ws

-- an end of an edge
abbrev pub end : ℤ → ℤ → End
end y x = record { y = y; x = x }

-- the edges that go up or down; the others have no walls
abbrev pub steep : List Edge → List Edge
steep [] = []
steep (e ∷ es) = elim (int_eq e.start e.stop) [ true ↦ steep es | false ↦ e ∷ steep es ]

-- both ends of each edge
abbrev pub ends_of : List Edge → List End
ends_of [] = []
ends_of (e ∷ es) = end e.start e.x ∷ end e.stop e.x ∷ ends_of es

-- the rectangle that was begun last at this left edge
abbrev pub last_at : BTreeMap ℤ ℕ → ℤ → Option ℕ
last_at last x = tree.get int_cmp last x

-- of rectangles up to a level, those that reach it are found by their left edges
pub record ReachesUp (rects : List Rectangle) (last : BTreeMap ℤ ℕ) (level : ℤ) : Type 0 where
  pub stand : (x : ℤ) (n : ℕ) → last_at last x ≡ Some n → n < length rects
  pub found : (n : ℕ) (r : Rectangle) → slice_get rects n ≡ Some r → r.y1 ≡ level → last_at last r.x0 ≡ Some n
  pub lower : (n : ℕ) (r : Rectangle) → slice_get rects n ≡ Some r → r.y1 ≤ℤ level

-- in a slab, at this left edge: what reaches the slab's bottom from here on, and its top before here, is found
pub record InSlab (rects : List Rectangle) (last : BTreeMap ℤ ℕ) (bottom top left : ℤ) : Type 0 where
  pub stand : (x : ℤ) (n : ℕ) → last_at last x ≡ Some n → n < length rects
  pub below : (n : ℕ) (r : Rectangle) → slice_get rects n ≡ Some r → r.y1 ≡ bottom → left ≤ℤ r.x0
      → last_at last r.x0 ≡ Some n
  pub here : (n : ℕ) (r : Rectangle) → slice_get rects n ≡ Some r → r.y1 ≡ top
      → (r.x0 <ℤ left) × (last_at last r.x0 ≡ Some n)
  pub lower : (n : ℕ) (r : Rectangle) → slice_get rects n ≡ Some r → r.y1 ≤ℤ top

-- a rectangle on which t stands and which was begun last at its left edge, or that there is none
abbrev pub IsSupport : List Rectangle → BTreeMap ℤ ℕ → Rectangle → Option ℕ → Type 0
IsSupport rects last t (Some n) =
    (last_at last t.x0 ≡ Some n) × ((r : Rectangle) → slice_get rects n ≡ Some r → stands_on r t ≡ true)
IsSupport rects last t None =
    (n : ℕ) (r : Rectangle) → last_at last t.x0 ≡ Some n → slice_get rects n ≡ Some r → stands_on r t ≡ false

-- no end is below one before it
abbrev pub FromBelow : List End → Type 0
FromBelow ends = (i j : ℕ) (e f : End) → i ≤ j → slice_get ends i ≡ Some e → slice_get ends j ≡ Some f → e.y ≤ℤ f.y

-- the y of the ends, rising, each once
abbrev pub levels_of : List End → List ℤ
levels_of [] = []
levels_of (e ∷ es) = placed e.y (levels_of es)
